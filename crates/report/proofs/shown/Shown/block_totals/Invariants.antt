use Rattle.std.proofs.Common.{◌≡◌, ℕ, ◌+◌}
use Rattle.lattice.specs.Grids.{cell_at}
use Rattle.lattice.specs.Sums.{sum_n}
use Rattle.lattice.specs.Vectors.{sum_v}
use Rattle.report.specs.Patches.{particles_at, momentum_at}
use Rattle.report.specs.Reports.{told}
use Rattle.report.proofs.shown.Shown.block_totals.Given as goal

-- after so many rows
abbrev pub invariant-loop-line : goal.invariant-loop-line
invariant-loop-line g l =
    let s = told g.G.Gas l.self in
    let cell : ℕ → ℕ → ℕ = λ k j. cell_at s.width (l.column + k) (l.row + j) in record {
      particles : l.totals.particles ≡ sum_n l.line (λ j. sum_n l.columns (λ k. particles_at s.gas s.field (cell k j)));
      momentum : l.totals.momentum ≡ sum_v l.line (λ j. sum_v l.columns (λ k. momentum_at s.gas s.field (cell k j)));
    }
