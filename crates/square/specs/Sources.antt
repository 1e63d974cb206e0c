-- Where the particles that come to a cell of the square lattice were before.
use Rattle.std.specs.Prelude.{ℕ, ◌+◌, List, [], ◌∷◌}
use Rattle.lattice.specs.declared.rows.Rows.{Rows}
use Rattle.lattice.specs.Grids.{onward, backward}

-- from the west, the south, the east and the north, where the cell's column lies between these two
abbrev pub sources_by : Rows → ℕ → ℕ → ℕ → List ℕ
sources_by r west c east = (r.here + west) ∷ (r.south + c) ∷ (r.here + east) ∷ (r.north + c) ∷ []

-- the same for column c of rows of w cells
abbrev pub sources : Rows → ℕ → ℕ → List ℕ
sources r w c = sources_by r (backward w c) c (onward w c)
