-- What was gathered in each column is what arrives there.
use Rattle.std.proofs.Common.{◌≡◌, take, length, get_or, sym, ◌∙◌, arith, rules}
use Rattle.std.proofs.lemmas.List.{length-take-le}
use Rattle.gas.proofs.StreamedRows.{row_parts, row_streamed}
use Rattle.lattice.specs.Sources.{gathered}
use Rattle.square.specs.Sources.{sources}
use Rattle.square.proofs.Gathers.{computed_arrives}
use Rattle.square.proofs.SquareGasGas.stream_row.Goals as goal

pub returns : goal.returns
returns c =
    let g = c.args.grid in
    let from = c.args.from.now in
    let to = c.args.to.now in
    let n = c.width.result in
    let fits = sym c.row_fits.ensures ∙ c.if-not-row_fits.false in
    let parts = row_parts g.width g.height c.args.row from to fits in
    let wide = c.width.ensures.value in
    let long : length (take n to) ≡ g.width = length-take-le n to (omega (arith, parts.2, wide)) ∙ wide in
    row_streamed _ g.width g.height c.args.row n from to c.fill_ring.new.ring fits wide (c.fill_ring.ensures.long ∙ long)
    (λ k l.
    let post = c.fill_ring.ensures.each k (omega (arith, long)) in
    let made : get_or c.fill_ring.new.ring k 0 ≡ gathered 4 from (sources c.rows_around-rows.result (length (take n to)) k) = search rules in
    made ∙ computed_arrives g.width g.height k c.args.row (length (take n to)) c.rows_around-rows.result from l parts.0 long c.rows_around-rows.ensures.rows)
