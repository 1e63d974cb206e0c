use Rattle.text.proofs.Sheets.{adds_then}
use Rattle.report.proofs.lines.put_total.Goals as goal

pub returns : goal.returns
returns c = adds_then c.put_bytes.ensures c.put_totals.ensures
