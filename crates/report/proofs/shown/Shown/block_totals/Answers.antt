use Rattle.std.proofs.Common.{◌≡◌, ℕ, ◌+◌, ◌≤◌, ap, ◌∙◌, arith}
use Rattle.lattice.specs.Grids.{cell_at}
use Rattle.lattice.specs.Sums.{sum_n}
use Rattle.lattice.specs.Vectors.{sum_v}
use Rattle.lattice.proofs.Sums.{sum_start, sum_n_start, sum_n_more}
use Rattle.lattice.proofs.Vectors.{same_vector}
use Rattle.report.specs.Patches.{particles_at, momentum_at}
use Rattle.report.specs.Reports.{told}
use Rattle.report.proofs.Stretches.{stretch_few, particles_few, momentum_fits, momentum_more}
use Rattle.report.proofs.shown.Shown.block_totals.Goals as goal

pub loop-line-init : goal.loop-line-init
loop-line-init g c =
    let none = c.default-totals.ensures in record {
      particles = none.0 ∙ sum_n_start _;
      momentum = same_vector _ _ (none.1.0 ∙ sum_start _) (none.1.1 ∙ sum_start _);
    }

pub overflow_add-totals : goal.overflow_add-totals
overflow_add-totals g c =
    let s = told g.G.Gas c.args.self.now in
    let laws = g.met.G.Gas.lawful c.args.self.now.gas.now in
    let b = c.args.columns in
    let j = c.loop-line.line in
    let cell : ℕ → ℕ → ℕ = λ k j. cell_at s.width (c.args.column + k) (c.args.row + j) in
    let few : b ≤ 256 = omega (arith, c.requires.columns) in
    omega (
      arith,
      particles_few s.gas laws s.field j b cell few,
      stretch_few s.gas laws s.field b (λ k. cell k j) few,
      c.loop-line.invariant.particles,
      c.stretch_totals-stretch.ensures.particles,
      c.requires.rows,
      c.loop-line-test.true,
    )

pub add_assign-requires : goal.add_assign-requires
add_assign-requires g c =
    let s = told g.G.Gas c.args.self.now in
    let cell : ℕ → ℕ → ℕ = λ k j. cell_at s.width (c.args.column + k) (c.args.row + j) in
    momentum_fits s.gas (g.met.G.Gas.lawful c.args.self.now.gas.now) s.field c.loop-line.line c.args.columns cell
    (omega (arith, c.requires.rows, c.loop-line-test.true)) (omega (arith, c.requires.columns))
    c.loop-line.invariant.momentum c.stretch_totals-stretch.ensures.momentum

pub loop-line-preserved : goal.loop-line-preserved
loop-line-preserved g c =
    let s = told g.G.Gas c.args.self.now in
    let b = c.args.columns in
    let j = c.loop-line.line in
    let cell : ℕ → ℕ → ℕ = λ k j. cell_at s.width (c.args.column + k) (c.args.row + j) in record {
      particles = omega (arith, c.loop-line.invariant.particles, c.stretch_totals-stretch.ensures.particles, sum_n_more j (λ i. sum_n b (λ k. particles_at s.gas s.field (cell k i))));
      momentum = c.add_assign.ensures.after ∙ momentum_more j (λ i. sum_v b (λ k. momentum_at s.gas s.field (cell k i))) c.loop-line.invariant.momentum c.stretch_totals-stretch.ensures.momentum;
    }

pub returns-clause-momentum : goal.returns-clause-momentum
returns-clause-momentum g c =
    let s = told g.G.Gas c.args.self.now in
    let cell : ℕ → ℕ → ℕ = λ k j. cell_at s.width (c.args.column + k) (c.args.row + j) in
    let end : c.loop-line.line ≡ c.args.rows = omega (arith, c.loop-line-test.false, c.loop-line.auto.line-end) in
    c.loop-line.invariant.momentum ∙ ap (λ (n : ℕ). sum_v n (λ i. sum_v c.args.columns (λ k. momentum_at s.gas s.field (cell k i)))) end
