-- The obstacles' pushes, reckoned over the first cells.
use Rattle.std.specs.Prelude.{◌≡◌, ℕ, ◌+◌, ◌^◌, ◌<◌, ◌≤◌, false, List, length, get_or, pos, slice_index, slice_index_or, unsigned_abs}
use Rattle.lattice.specs.declared.vector.Vector.{Vector}
use Rattle.lattice.specs.Vectors.{sum_v, only_if, times}
use Rattle.gas.specs.Model.{GasModel, momentum}
use Rattle.lattice.specs.declared.vector.Vector.{Vector as Account}
use Rattle.book.specs.Accounts.{accounts, none, grown}
use Rattle.dynamics.specs.Roles.{role_of, is_wall_of}

-- what the first i cells push on obstacle n
abbrev pub push_up_to : GasModel → List ℕ → List ℕ → ℕ → ℕ → Vector
push_up_to g map field n i = times (pos 2) (sum_v i (λ j. only_if (is_wall_of n (role_of (slice_index map j))) (momentum g (slice_index field j))))

-- each account after them
abbrev pub Settled : GasModel → List ℕ → List ℕ → List Account → List Account → ℕ → Type 0
Settled g map field old new i = (k : ℕ) → k < accounts → slice_index_or new k none ≡ grown (slice_index_or old k none) (push_up_to g map field (k + 1) i)

-- no wall stands in these cells
abbrev pub NoWall : List ℕ → Type 0
NoWall map = (j : ℕ) → j < length map → (n : ℕ) → is_wall_of n (role_of (slice_index map j)) ≡ false

-- far from the ends of their numbers
abbrev pub Modest : List Account → Type 0
Modest book = (k : ℕ) → k < accounts → (unsigned_abs (get_or book k none).along ≤ 2 ^ 60) × (unsigned_abs (get_or book k none).across ≤ 2 ^ 60)
