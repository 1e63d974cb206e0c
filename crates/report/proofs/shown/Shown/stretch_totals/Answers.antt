use Rattle.std.proofs.Common.{◌≡◌, ℕ, ◌+◌, ◌-◌, ◌*◌, ◌≤◌, length, ap, ◌∙◌, ap₂, arith}
use Rattle.std.proofs.lemmas.List.{length-take-le}
use Rattle.lattice.specs.Vectors.{vec}
use Rattle.lattice.specs.Grids.{cell_at}
use Rattle.lattice.proofs.Cells.{row_fits_lem}
use Rattle.gas.specs.Model.{particles, momentum}
use Rattle.report.specs.Reports.{told}
use Rattle.report.proofs.Stretches.{stretch_sum_n, stretch_sum_z}
use Rattle.report.proofs.shown.Shown.stretch_totals.Goals as goal

pub returns : goal.returns
returns g c =
    let s = told g.G.Gas c.args.self.now in
    let w = s.width in
    let n = c.args.count in
    let start = c.args.row * c.width.result + c.args.column in
    let wide : c.args.row * c.width.result ≡ c.args.row * w = ap (λ (x : ℕ). c.args.row * x) c.width.ensures.value in
    let full : length s.field ≡ w * s.height = length-take-le (w * s.height) c.args.self.now.field.now c.args.self.now.whole in
    let within : start + n ≤ length s.field = omega (arith, row_fits_lem c.args.row w s.height c.requires.row, c.requires.columns) in
    let cell : ℕ → ℕ = λ k. cell_at w (c.args.column + k) c.args.row in
    let at : (k : ℕ) → start + k ≡ cell k = λ k. omega arith in
    let particles_are = rw c.cells.ensures at c.field_totals.ensures.particles in
    let momentum_is = rw c.cells.ensures at c.field_totals.ensures.momentum in
    record {
      particles = particles_are ∙ stretch_sum_n (particles s.gas) s.field start (start + n - start) n cell (omega arith) within at;
      momentum = momentum_is ∙ ap₂ vec
          (stretch_sum_z (λ q. (momentum s.gas q).along) s.field start (start + n - start) n cell (omega arith) within at)
          (stretch_sum_z (λ q. (momentum s.gas q).across) s.field start (start + n - start) n cell (omega arith) within at);
    }
