-- A cell's state is a number: bit q tells if channel q holds a particle.
use Rattle.std.specs.Prelude.{ℕ, ◌/◌, ◌%◌, ◌^◌, Bool, cond, List, length, ◌==◌, slice_index}
use Rattle.lattice.specs.declared.vector.Vector.{Vector}
use Rattle.lattice.specs.Sums.{sum_n, count_n}
use Rattle.lattice.specs.Vectors.{sum_v, only_if}

-- whether channel q of the state s holds a particle
abbrev pub holds : ℕ → ℕ → Bool
holds s q = (s / 2 ^ q) % 2 == 1

-- the state of c channels in which channel q holds a particle just if p q
abbrev pub state_of : ℕ → (ℕ → Bool) → ℕ
state_of c p = sum_n c (λ q. cond (p q) (2 ^ q) 0)

-- how many particles a state of c channels has
abbrev pub particles : ℕ → ℕ → ℕ
particles c s = count_n c (holds s)

-- the sum of its particles' vectors, where channel q has the vector v q
abbrev pub momentum : ℕ → (ℕ → Vector) → ℕ → Vector
momentum c v s = sum_v c (λ q. only_if (holds s q) (v q))

-- the particles of a field: those of all its cells, walls included
abbrev pub field_particles : ℕ → List ℕ → ℕ
field_particles c xs = sum_n (length xs) (λ i. particles c (slice_index xs i))

-- and their momentum
abbrev pub field_momentum : ℕ → (ℕ → Vector) → List ℕ → Vector
field_momentum c v xs = sum_v (length xs) (λ i. momentum c v (slice_index xs i))
