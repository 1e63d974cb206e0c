use Rattle.std.proofs.Common.{◌∙◌}
use Rattle.text.proofs.Sheets.{measured}
use Rattle.report.proofs.shown.Shown.measure_report.Goals as goal

pub returns : goal.returns
returns g c = c.place.ensures ∙ measured c.new-sheet.ensures.place c.put_report.ensures
