use Rattle.std.proofs.Common.{ap}
use Rattle.report.specs.Lines.{patch_line}
use Rattle.text.proofs.Sheets.{adds_start, adds_more, adds_same}
use Rattle.report.proofs.shown.Shown.put_patch_row.Goals as goal

pub loop-column-init : goal.loop-column-init
loop-column-init g c = adds_start _ c.args.sheet.now

pub loop-column-preserved : goal.loop-column-preserved
loop-column-preserved g c = adds_more c.loop-column.column _ c.loop-column.invariant (adds_same (ap patch_line c.patch_at.ensures) c.put_patch.ensures)
