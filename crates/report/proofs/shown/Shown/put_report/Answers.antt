use Rattle.std.proofs.Common.{ap}
use Rattle.report.specs.Lines.{total_line}
use Rattle.report.specs.Reports.{report_text}
use Rattle.text.proofs.Sheets.{adds_then, adds_same}
use Rattle.report.proofs.shown.Shown.put_report.Goals as goal

pub returns : goal.returns
unfolding report_text
returns g c =
    adds_then c.put_step.ensures
    (adds_then c.put_patches.ensures
    (adds_then c.put_accounts.ensures
    (adds_same (ap total_line c.all_totals.ensures) c.put_total.ensures)))
