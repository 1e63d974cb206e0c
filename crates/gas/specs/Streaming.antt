-- Streaming: each particle moves to the neighbour by its channel.
use Rattle.std.specs.Prelude.{◌≡◌, ℕ, ◌*◌, ◌<◌, ◌≤◌, Bool, true, false, ◌&&◌, List, length, nat_le, nat_lt, slice_index}
use Rattle.lattice.specs.Grids.{cell_at}
use Rattle.lattice.specs.States.{holds, state_of}
use Rattle.gas.specs.Model.{GasModel}

-- whether a particle comes to cell i by channel q: the cell that lies the opposite way holds one there
abbrev pub comes_by : GasModel → ℕ → ℕ → List ℕ → ℕ → ℕ → Bool
comes_by m w h from i q = holds (slice_index from (m.neighbour w h (m.opposite q) i)) q

-- the state that comes to cell i
abbrev pub arriving : GasModel → ℕ → ℕ → List ℕ → ℕ → ℕ
arriving m w h from i = state_of m.channels (comes_by m w h from i)

-- whether row r is a row of the grid, the field is whole, and the row has room
abbrev pub row_fits : ℕ → ℕ → ℕ → List ℕ → List ℕ → Bool
row_fits w h r from to = nat_lt r h && (nat_le (w * h) (length from) && nat_le w (length to))

-- row r of the field `from`, streamed into the first w places of `to`; where it does not fit, nothing changes
pub record RowStreamed (m : GasModel) (w h r : ℕ) (from to after : List ℕ) : Type 0 where
  pub row : row_fits w h r from to ≡ true → (c : ℕ) → c < w → slice_index after c ≡ arriving m w h from (cell_at w c r)
  pub rest : row_fits w h r from to ≡ true → (k : ℕ) → w ≤ k → slice_index after k ≡ slice_index to k
  pub unfit : row_fits w h r from to ≡ false → after ≡ to
