use Rattle.std.proofs.Common.{w64, SFits, rules}
use Rattle.text.proofs.Sheets.{adds_then, adds_signed}
use Rattle.report.proofs.lines.put_vector.Goals as goal

pub returns : goal.returns
returns c =
    let x : SFits w64 c.args.vector.along = search rules in
    let y : SFits w64 c.args.vector.across = search rules in
    adds_then c.put_bytes.ensures
    (adds_then (adds_signed x c.put_number.ensures)
    (adds_then c.put_bytes-2.ensures
    (adds_then (adds_signed y c.put_number-2.ensures) c.put_bytes-3.ensures)))
