-- Where the particles that come to a cell were before: the rows around its own, and the cells in them, one for each channel.
use Rattle.std.specs.Prelude.{ℕ, ◌+◌, ◌*◌, ◌≤◌, List, slice_index}
use Rattle.lattice.specs.declared.rows.Rows.{Rows}
use Rattle.lattice.specs.Grids.{onward, backward}
use Rattle.lattice.specs.States.{holds, state_of}

-- row r of a grid of w columns and h rows and the rows beside it, each by its first cell
abbrev pub rows_around : ℕ → ℕ → ℕ → Rows
rows_around w h r = record { here = r * w; south = backward h r * w; north = onward h r * w }

-- three rows of w cells lie within n cells
pub record RowsWithin (n w : ℕ) (rows : Rows) : Type 0 where
  pub here_in : rows.here + w ≤ n
  pub south_in : rows.south + w ≤ n
  pub north_in : rows.north + w ≤ n

-- the state that in channel q, below c, holds what the source of that channel holds there
unfoldable pub gathered : ℕ → List ℕ → List ℕ → ℕ
gathered c from sources = state_of c (λ q. holds (slice_index from (slice_index sources q)) q)
