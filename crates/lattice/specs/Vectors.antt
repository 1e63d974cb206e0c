-- Vectors of two whole numbers, the first along the tunnel and the second across it.
use Rattle.std.specs.Prelude.{ℕ, Bool, cond, ℤ, pos, ◌+ℤ◌, ◌*ℤ◌, neg_ℤ}
use Rattle.lattice.specs.declared.vector.Vector.{Vector}
use Rattle.lattice.specs.Sums.{sum_z}

abbrev pub vec : ℤ → ℤ → Vector
vec x y = record { along = x; across = y }

-- the vector (0, 0)
abbrev pub still : Vector
still = vec (pos 0) (pos 0)

abbrev pub negated : Vector → Vector
negated v = vec (neg_ℤ v.along) (neg_ℤ v.across)

abbrev pub added : Vector → Vector → Vector
added v w = vec (v.along +ℤ w.along) (v.across +ℤ w.across)

abbrev pub times : ℤ → Vector → Vector
times k v = vec (k *ℤ v.along) (k *ℤ v.across)

-- v if the test holds, and otherwise nothing
abbrev pub only_if : Bool → Vector → Vector
only_if b v = vec (cond b v.along (pos 0)) (cond b v.across (pos 0))

-- the sum of f 0 to f (n - 1)
abbrev pub sum_v : ℕ → (ℕ → Vector) → Vector
sum_v n f = vec (sum_z n (λ i. (f i).along)) (sum_z n (λ i. (f i).across))
