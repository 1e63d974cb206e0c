-- The columns around a column, and what is gathered from them.
use Rattle.std.proofs.Common.{◌≡◌, ℕ, zero, suc, ◌+◌, ◌-◌, ◌%◌, ◌^◌, ◌<◌, ◌≤◌, Bool, true, false, cond, eqb, List, get_or, sym, refl, ap, ◌∙◌, ap₂, arith}
use lib.Bits.{bit_and}
use Rattle.lattice.specs.declared.rows.Rows.{Rows}
use Rattle.lattice.specs.Grids.{cell_at, onward, backward}
use Rattle.lattice.specs.Sources.{rows_around, gathered}
use Rattle.lattice.proofs.Making.{state_of-kept}
use Rattle.lattice.proofs.Rings.{wrap_in, backward_next}
use Rattle.gas.specs.Model.{GasModel}
use Rattle.gas.specs.Streaming.{arriving}
use Rattle.gas.proofs.Arrivals.{gathered-arriving}
use Rattle.hexagonal.specs.Channels.{across, column_by, row_by}
use Rattle.hexagonal.specs.Sources.{columns_around, sources, HexagonalChannels}
use Rattle.hexagonal.specs.Lawful.{below_seven}

-- in an even row the diagonals touch the column before and this one, in an odd row this one and the next
pub columns_are : (odd : Bool) (w c : ℕ) → c < w
    → record { west = backward w c; middle = c; east = onward w c; left = cond odd c (backward w c); right = cond odd (onward w c) c } ≡ columns_around w (cond odd 1 0) c
columns_are false w c l =
    let same : c + 0 ≡ c = omega arith in
    let right = wrap_in c w l in
    cc
columns_are true w c l =
    let left : backward w (c + 1) ≡ c = backward_next w (c + 1) (omega arith) (omega arith) ∙ omega arith in
    cc

-- a remainder by 2 as a test
pub shift_is : (e : ℕ) → e < 2 → cond (eqb e 1) 1 0 ≡ e
shift_is zero l = refl
shift_is (suc zero) l = refl
shift_is (suc (suc e)) l = absurd (omega arith)

-- a channel's source is the cell that lies the opposite way
source_is : (w h c r q : ℕ) → q < 7 → get_or (sources (rows_around w h r) (columns_around w (r % 2) c)) q 0 ≡ cell_at w (column_by w (across q) c r) (row_by h (across q) r)
source_is w h c r =
    below_seven (λ q. get_or (sources (rows_around w h r) (columns_around w (r % 2) c)) q 0 ≡ cell_at w (column_by w (across q) c r) (row_by h (across q) r))
    refl refl refl refl refl refl refl

-- of all seven channels those that the gas has
gathered_arrives : (n w h c r : ℕ) (from : List ℕ) (m : GasModel) → HexagonalChannels n m → n ≤ 7 → c < w → r < h
    → bit_and (gathered 7 from (sources (rows_around w h r) (columns_around w (r % 2) c))) (2 ^ n - 1) ≡ arriving m w h from (cell_at w c r)
unfolding gathered
gathered_arrives n w h c r from m kind few in_c in_r =
    let places = sources (rows_around w h r) (columns_around w (r % 2) c) in
    state_of-kept n 7 _ few
    ∙ ap (λ (k : ℕ). gathered k from places) (sym kind.count)
    ∙ gathered-arriving m w h (cell_at w c r) from places
    (λ q l. let below : q < n = omega (arith, kind.count) in source_is w h c r q (omega arith) ∙ sym (kind.comes w h q c r below in_c in_r))

-- the same, with the width, the shift, the number of states and the rows as they were computed
pub computed_arrives : (n w h c r width odd states : ℕ) (rows : Rows) (from : List ℕ) (m : GasModel) → HexagonalChannels n m → n ≤ 7 → c < w → r < h
    → width ≡ w → odd ≡ r % 2 → states ≡ 2 ^ n → rows ≡ rows_around w h r
    → bit_and (gathered 7 from (sources rows (columns_around width odd c))) (states - 1) ≡ arriving m w h from (cell_at w c r)
computed_arrives n w h c r width odd states rows from m kind few in_c in_r wide shift counted around =
    ap₂ (λ (x y : ℕ). bit_and (gathered 7 from (sources rows (columns_around x y c))) (states - 1)) wide shift
    ∙ ap₂ (λ (x : ℕ) (y : Rows). bit_and (gathered 7 from (sources y (columns_around w (r % 2) c))) (x - 1)) counted around
    ∙ gathered_arrives n w h c r from m kind few in_c in_r
