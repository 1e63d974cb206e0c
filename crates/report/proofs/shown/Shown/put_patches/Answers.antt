use Rattle.text.proofs.Sheets.{adds_start, adds_more}
use Rattle.report.proofs.shown.Shown.put_patches.Goals as goal

pub loop-row-init : goal.loop-row-init
loop-row-init g c = adds_start _ c.args.sheet.now

pub loop-row-preserved : goal.loop-row-preserved
loop-row-preserved g c = adds_more c.loop-row.row _ c.loop-row.invariant c.put_patch_row.ensures
