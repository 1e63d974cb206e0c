-- The house rules hold: each rule at each i turns its state into its outcome, and a state that no rule names stays.
use Rattle.std.specs.Prelude.{◌≡◌, ℕ, ◌<◌, Bool, List, length, ◌≢◌, slice_index_or}
use Rattle.gas.specs.Model.{outcome}
use Rattle.hexagonal.specs.Collisions.{rules}
use Rattle.hexagonal.specs.Hexagonal.{hexagonal}

-- rule k under twist b, as the state that it names and what becomes of it
abbrev pub rule_state : Bool → ℕ → ℕ
rule_state b k = (slice_index_or (rules b) k (0, 0)).0

abbrev pub rule_outcome : Bool → ℕ → ℕ
rule_outcome b k = (slice_index_or (rules b) k (0, 0)).1

pub record HouseRules (entries : List ℕ) : Type 0 where
  pub each : (b : Bool) (k : ℕ) → k < length (rules b) → outcome hexagonal entries b (rule_state b k) ≡ rule_outcome b k
  pub others : (b : Bool) (n : ℕ) → ((k : ℕ) → k < length (rules b) → n ≢ rule_state b k) → outcome hexagonal entries b n ≡ n
