-- Where the particles that come to a cell of the hexagonal lattice were before, by the columns around its own.
use Rattle.std.specs.Prelude.{◌≡◌, ℕ, ◌+◌, ◌%◌, ◌<◌, List, [], ◌∷◌}
use Rattle.lattice.specs.declared.rows.Rows.{Rows}
use Rattle.lattice.specs.Grids.{cell_at, onward, backward}
use Rattle.gas.specs.Model.{GasModel}
use Rattle.hexagonal.specs.declared.streaming.Columns.{Columns}
use Rattle.hexagonal.specs.Channels.{across, column_by, row_by}

-- the columns around column c of a row of w cells, where e is 1 in an odd row and 0 in an even one
abbrev pub columns_around : ℕ → ℕ → ℕ → Columns
columns_around w e c = record { west = backward w c; middle = c; east = onward w c; left = backward w (c + e); right = (c + e) % w }

-- the cell that the particle in each channel comes from: those that go east come from the west, and so on; rest was there
abbrev pub sources : Rows → Columns → List ℕ
sources r c =
    (r.here + c.west) ∷ (r.south + c.left) ∷ (r.south + c.right) ∷ (r.here + c.east) ∷ (r.north + c.right) ∷ (r.north + c.left) ∷ (r.here + c.middle) ∷ []

-- a gas of n channels that come from where the first n of the hexagonal lattice do
pub record HexagonalChannels (n : ℕ) (m : GasModel) : Type 0 where
  pub count : m.channels ≡ n
  pub comes : (w h q c r : ℕ) → q < n → c < w → r < h → m.neighbour w h (m.opposite q) (cell_at w c r) ≡ cell_at w (column_by w (across q) c r) (row_by h (across q) r)
