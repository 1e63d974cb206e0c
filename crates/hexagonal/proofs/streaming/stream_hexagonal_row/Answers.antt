-- What was gathered in each column is what arrives there.
use Rattle.std.proofs.Common.{◌≡◌, ℕ, ◌-◌, ◌%◌, Bool, cond, eqb, List, take, length, get_or, sym, ap, ◌∙◌, arith, rules}
use lib.Bits.{bit_and}
use Rattle.std.proofs.lemmas.Nat.{mod_below}
use Rattle.std.proofs.lemmas.List.{length-take-le}
use Rattle.lattice.specs.declared.rows.Rows.{Rows}
use Rattle.lattice.specs.Grids.{onward, backward}
use Rattle.lattice.specs.Sources.{gathered}
use Rattle.gas.proofs.StreamedRows.{row_parts, row_streamed}
use Rattle.hexagonal.specs.declared.streaming.Columns.{Columns}
use Rattle.hexagonal.specs.Sources.{sources}
use Rattle.hexagonal.proofs.Gathers.{columns_are, shift_is, computed_arrives}
use Rattle.hexagonal.proofs.streaming.stream_hexagonal_row.Goals as goal

-- what is gathered from these columns
abbrev by_columns : List ℕ → Rows → ℕ → Columns → ℕ
by_columns from rows mask columns = bit_and (gathered 7 from (sources rows columns)) mask

pub returns : goal.returns
returns c = λ m kind.
    let g = c.args.grid in
    let from = c.args.from.now in
    let to = c.args.to.now in
    let rows = c.rows_around-rows.result in
    let states = c.states_of.result in
    let n = c.width.result in
    let wide = c.width.ensures.value in
    let fits = sym c.row_fits.ensures ∙ c.if-not-row_fits.false in
    let parts = row_parts g.width g.height c.args.row from to fits in
    let around = length (take n to) in
    let long : around ≡ g.width = length-take-le n to (omega (arith, parts.2, wide)) ∙ wide in
    let odd : Bool = eqb (c.args.row % 2) 1 in
    row_streamed m g.width g.height c.args.row n from to c.fill_ring.new.ring fits wide (c.fill_ring.ensures.long ∙ long)
    (λ k l.
    let post = c.fill_ring.ensures.each k (omega (arith, long)) in
    let made : get_or c.fill_ring.new.ring k 0 ≡ by_columns from rows (states - 1) (record { west = backward around k; middle = k; east = onward around k; left = cond odd k (backward around k); right = cond odd (onward around k) k }) = search rules in
    made
    ∙ ap (by_columns from rows (states - 1)) (columns_are odd around k (omega (arith, long)))
    ∙ computed_arrives c.args.channels g.width g.height k c.args.row around (cond odd 1 0) states rows from m kind (omega arith) l parts.0 long (shift_is (c.args.row % 2) (mod_below c.args.row 2 (omega arith))) c.states_of.ensures c.rows_around-rows.ensures.rows)
