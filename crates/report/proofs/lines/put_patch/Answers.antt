use Rattle.text.proofs.Sheets.{adds_then}
use Rattle.report.proofs.lines.put_patch.Goals as goal

pub returns : goal.returns
returns c =
    adds_then c.put_number.ensures
    (adds_then c.put_bytes.ensures
    (adds_then c.put_number-2.ensures
    (adds_then c.put_bytes-2.ensures c.put_totals.ensures)))
