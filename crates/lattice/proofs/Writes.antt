-- Writing a list place by place.
use Rattle.std.proofs.Common.{ℕ, ◌+◌, ◌<◌, ◌≢◌, List, length, get_or, set, arith, get_or-set_other, get_or-set_same, below_more}

-- the places below i keep a rule, and then i does too
pub rule_more : (P : ℕ → ℕ → Type 0) (xs : List ℕ) (i v : ℕ) → i < length xs → P i v → ((k : ℕ) → k < i → P k (get_or xs k 0)) → (k : ℕ) → k < i + 1 → P k (get_or (set xs i v) k 0)
rule_more P xs i v l here before = below_more _ _ (λ k h. let apart : k ≢ i = omega arith in rw get_or-set_other (before k h)) (rw get_or-set_same here)
