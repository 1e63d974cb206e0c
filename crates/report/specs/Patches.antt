-- A patch is a square of b × b cells; patch (c, r) begins in column c × b and row r × b. Its particles and their momentum are the sums over
-- its cells of what each gives.
use Rattle.std.specs.Prelude.{ℕ, ◌+◌, ◌*◌, List, slice_index}
use Rattle.lattice.specs.declared.vector.Vector.{Vector}
use Rattle.lattice.specs.Sums.{sum_n}
use Rattle.lattice.specs.Vectors.{sum_v}
use Rattle.lattice.specs.Grids.{cell_at}
use Rattle.lattice.specs.States.{field_particles, field_momentum}
use Rattle.gas.specs.declared.totals.Totals.{Totals}
use Rattle.gas.specs.Model.{GasModel, particles, momentum}
use Rattle.report.specs.declared.patch.Patch.{Patch}

-- what cell i gives to its patch: all of its particles, and their momentum
abbrev pub particles_at : GasModel → List ℕ → ℕ → ℕ
particles_at gas field i = particles gas (slice_index field i)

abbrev pub momentum_at : GasModel → List ℕ → ℕ → Vector
momentum_at gas field i = momentum gas (slice_index field i)

-- the cell in column k and row j of patch (c, r), on a grid w wide
abbrev pub patch_cell : ℕ → ℕ → ℕ → ℕ → ℕ → ℕ → ℕ
patch_cell w b c r k j = cell_at w (c * b + k) (r * b + j)

abbrev pub patch_totals : GasModel → ℕ → List ℕ → ℕ → ℕ → ℕ → Totals
patch_totals gas w field b c r = record {
  particles = sum_n b (λ j. sum_n b (λ k. particles_at gas field (patch_cell w b c r k j)));
  momentum = sum_v b (λ j. sum_v b (λ k. momentum_at gas field (patch_cell w b c r k j)));
}

-- patch (c, r) with its place
abbrev pub patch_at : GasModel → ℕ → List ℕ → ℕ → ℕ → ℕ → Patch
patch_at gas w field b c r = record { column = c; row = r; totals = patch_totals gas w field b c r }

-- those of the whole field, whatever its patches are
abbrev pub field_totals : GasModel → List ℕ → Totals
field_totals gas field = record {
  particles = field_particles gas.channels field;
  momentum = field_momentum gas.channels gas.vector field;
}
