-- Vectors with equal parts are equal; their sums; and how large they are.
use Rattle.std.proofs.Common.{◌≡◌, ℕ, ◌+◌, ◌≤◌, Bool, true, false, ℤ, nat_abs, ap, ◌∙◌}
use lib.IntN.{+ℤ_idr}
use Rattle.lattice.specs.declared.vector.Vector.{Vector}
use Rattle.lattice.specs.Vectors.{vec, still, added, only_if, sum_v}
use Rattle.lattice.proofs.Sums.{sum_start, sum_more}

pub same_vector : (v w : Vector) → v.along ≡ w.along → v.across ≡ w.across → v ≡ w
same_vector v w x y = ap (λ (a : ℤ). vec a v.across) x ∙ ap (vec w.along) y

-- a loop's start and its step
pub sum_v_start : (f : ℕ → Vector) → still ≡ sum_v 0 f
sum_v_start f = same_vector _ _ (sum_start _) (sum_start _)

pub sum_v_more : (n : ℕ) (f : ℕ → Vector) → sum_v (n + 1) f ≡ added (sum_v n f) (f n)
sum_v_more n f = same_vector _ _ (sum_more n (λ i. (f i).along)) (sum_more n (λ i. (f i).across))

-- a vector that a test lets in, or keeps out
pub sum_v_more_yes : (n : ℕ) (p : ℕ → Bool) (f : ℕ → Vector) → p n ≡ true → sum_v (n + 1) (λ i. only_if (p i) (f i)) ≡ added (sum_v n (λ i. only_if (p i) (f i))) (f n)
sum_v_more_yes n p f h = sum_v_more n _ ∙ ap (λ (b : Bool). added (sum_v n (λ i. only_if (p i) (f i))) (only_if b (f n))) h

pub sum_v_more_no : (n : ℕ) (p : ℕ → Bool) (f : ℕ → Vector) → p n ≡ false → sum_v (n + 1) (λ i. only_if (p i) (f i)) ≡ sum_v n (λ i. only_if (p i) (f i))
sum_v_more_no n p f h = sum_v_more n _ ∙ ap (λ (b : Bool). added (sum_v n (λ i. only_if (p i) (f i))) (only_if b (f n))) h ∙ same_vector _ _ (+ℤ_idr _) (+ℤ_idr _)

-- both numbers of a vector lie within k of zero
abbrev pub Within : ℕ → Vector → Type 0
Within k v = (nat_abs v.along ≤ k) × (nat_abs v.across ≤ k)
