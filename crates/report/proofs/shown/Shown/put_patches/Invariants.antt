use Rattle.std.proofs.Common.{◌/◌}
use Rattle.text.specs.Sheets.{Adds}
use Rattle.text.specs.Texts.{texts}
use Rattle.report.specs.Lines.{patch_line}
use Rattle.report.specs.Patches.{patch_at}
use Rattle.report.specs.Reports.{told}
use Rattle.report.proofs.shown.Shown.put_patches.Given as goal

-- the lines of the first rows of patches stand
abbrev pub invariant-loop-row : goal.invariant-loop-row
invariant-loop-row g l =
    let s = told g.G.Gas l.self in
    Adds (texts l.row (λ r. texts (s.width / l.self.patch) (λ c. patch_line (patch_at s.gas s.width s.field l.self.patch c r)))) l.initial.sheet l.sheet
