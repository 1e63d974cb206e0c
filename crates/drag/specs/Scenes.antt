-- What the tunnel begins with: bars of cells of one kind, and gas in every cell.
use Rattle.std.specs.Prelude.{ℕ, zero, suc, ◌%◌, List, slice_set}
use Rattle.lattice.specs.Grids.{cell_at}

-- the map with this kind in a column of a grid w wide, in so many rows from row 0
abbrev pub barred : ℕ → ℕ → ℕ → ℕ → List ℕ → List ℕ
barred w column kind zero map = map
barred w column kind (suc rows) map = slice_set (barred w column kind rows map) (cell_at w column rows) kind

-- cell i holds state i mod 128, so that all states of the hexagonal gas stand in turn
abbrev pub gas_at : ℕ → ℕ
gas_at i = i % 128
