use Rattle.text.proofs.Sheets.{adds_then}
use Rattle.report.proofs.lines.put_step.Goals as goal

pub returns : goal.returns
returns c = adds_then c.put_bytes.ensures (adds_then c.put_number.ensures c.put_bytes-2.ensures)
