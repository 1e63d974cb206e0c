-- What a gas is made of: its kind, its channels, its house rules, and of each channel the vector, the opposite and the neighbours.
use Rattle.std.specs.Prelude.{ℕ, ◌+◌, ◌*◌, ◌^◌, Bool, true, false, cond, ◌&&◌, List, ◌++◌, map, nat_lt, slice_index}
use Rattle.std.specs.List.{range_with_len}
use Rattle.lattice.specs.declared.vector.Vector.{Vector}
use Rattle.lattice.specs.Grids.{cell_at, column_of, row_of}
use Rattle.lattice.specs.States as state

pub record GasModel : Type 0 where
  pub kind : ℕ
  pub channels : ℕ
  -- 2 × 2^Q entries, as `entry_place` orders them
  pub house : List ℕ
  pub vector : ℕ → Vector
  pub opposite : ℕ → ℕ
  -- neighbour W H q i: the cell that channel q leads to from cell i of a grid of W columns and H rows
  pub neighbour : ℕ → ℕ → ℕ → ℕ → ℕ

-- a gas of Q channels has 2^Q states
abbrev pub states : GasModel → ℕ
states m = 2 ^ m.channels

abbrev pub particles : GasModel → ℕ → ℕ
particles m s = state.particles m.channels s

abbrev pub momentum : GasModel → ℕ → Vector
momentum m s = state.momentum m.channels m.vector s

-- the entry for state n under twist b is number b × 2^Q + n
abbrev pub entry_place : GasModel → Bool → ℕ → ℕ
entry_place m b n = cond b 1 0 * states m + n

-- the outcome of state n under twist b; beyond its states a gas gives back what it was asked
abbrev pub outcome : GasModel → List ℕ → Bool → ℕ → ℕ
outcome m entries b n = cond (nat_lt n (states m)) (slice_index entries (entry_place m b n)) n

-- from cell i to the column and the row that these rules give for its own, on a grid w wide
abbrev pub reached : ℕ → (ℕ → ℕ → ℕ) → (ℕ → ℕ) → ℕ → ℕ
reached w column row i = cell_at w (column (column_of w i) (row_of w i)) (row (row_of w i))

-- beyond c channels or the grid, a cell's neighbour is the cell itself
abbrev pub on_grid : ℕ → ℕ → ℕ → ℕ → ℕ → ℕ → ℕ
on_grid c w h q i there = cond (nat_lt q c && nat_lt i (w * h)) there i

-- the entries of a table whose outcome of state n under twist b is `rule b n`, for c channels
abbrev pub tabulated : ℕ → (Bool → ℕ → ℕ) → List ℕ
tabulated c rule = map (rule false) (range_with_len 0 (2 ^ c)) ++ map (rule true) (range_with_len 0 (2 ^ c))
