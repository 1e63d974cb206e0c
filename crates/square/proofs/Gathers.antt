-- What is gathered from the columns and rows around a cell is what arrives there.
use Rattle.std.proofs.Common.{◌≡◌, ℕ, ◌<◌, List, get_or, sym, refl, ◌∙◌, ap₂}
use Rattle.lattice.specs.declared.rows.Rows.{Rows}
use Rattle.lattice.specs.Grids.{cell_at}
use Rattle.lattice.specs.Sources.{rows_around, gathered}
use Rattle.gas.specs.Streaming.{arriving}
use Rattle.gas.proofs.Arrivals.{gathered-arriving}
use Rattle.square.specs.Square.{square, across, column_by, row_by}
use Rattle.square.specs.Sources.{sources}
use Rattle.square.specs.Lawful.{below_four, square_comes}

source_is : (w h c r q : ℕ) → q < 4 → get_or (sources (rows_around w h r) w c) q 0 ≡ cell_at w (column_by w (across q) c r) (row_by h (across q) r)
source_is w h c r = below_four (λ q. get_or (sources (rows_around w h r) w c) q 0 ≡ cell_at w (column_by w (across q) c r) (row_by h (across q) r)) refl refl refl refl

-- with the width and the rows as they were computed
pub computed_arrives : (w h c r width : ℕ) (rows : Rows) (from : List ℕ) → c < w → r < h → width ≡ w → rows ≡ rows_around w h r → gathered 4 from (sources rows width c) ≡ arriving square w h from (cell_at w c r)
computed_arrives w h c r width rows from in_c in_r wide around =
    ap₂ (λ (x : ℕ) (y : Rows). gathered 4 from (sources y x c)) wide around
    ∙ gathered-arriving square w h (cell_at w c r) from (sources (rows_around w h r) w c) (λ q l. source_is w h c r q l ∙ sym (square_comes w h q c r l in_c in_r))
