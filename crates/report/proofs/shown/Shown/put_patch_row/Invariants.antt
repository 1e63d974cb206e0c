use Rattle.text.specs.Sheets.{Adds}
use Rattle.text.specs.Texts.{texts}
use Rattle.report.specs.Lines.{patch_line}
use Rattle.report.specs.Patches.{patch_at}
use Rattle.report.specs.Reports.{told}
use Rattle.report.proofs.shown.Shown.put_patch_row.Given as goal

-- the lines of the first columns stand
abbrev pub invariant-loop-column : goal.invariant-loop-column
invariant-loop-column g l =
    let s = told g.G.Gas l.self in
    Adds (texts l.column (λ c. patch_line (patch_at s.gas s.width s.field l.self.patch c l.row))) l.initial.sheet l.sheet
