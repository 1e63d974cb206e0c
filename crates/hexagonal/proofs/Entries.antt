-- From the table as a whole to each of its entries.
use Rattle.std.proofs.Common.{◌≡◌, ℕ, zero, suc, ◌-◌, ◌<◌, Bool, true, false, ◌&&◌, eqb, ltb, List, [], ◌∷◌, ◌++◌, map, length, get_or, refl, ap, ◌∙◌, inl, inr, zero-add, arith}
use Rattle.std.specs.List.{range_with_len}
use Rattle.std.proofs.lemmas.List.FromFn.{length-map-range_with_len, get_or-map-range_with_len}
use Rattle.std.proofs.lemmas.List.{get_or_append_left, get_or-append_right}
use Rattle.std.proofs.lemmas.Bool.{eqb-true, ne_eqb, ltb-true, lt-ltb, le-ltb, and_parts, cases_eq, cases_lt, cond-true, cond-false}
use Rattle.gas.specs.Model.{outcome, entry_place}
use Rattle.hexagonal.specs.Collisions.{rules, applied, house_rule}
use Rattle.hexagonal.specs.Hexagonal.{hexagonal}
use Rattle.hexagonal.specs.House.{rule_state, rule_outcome, HouseRules}

-- a test that is computed for every number below n
abbrev all_below : ℕ → (ℕ → Bool) → Bool
all_below zero p = true
all_below (suc n) p = p n && all_below n p

all_at : (n : ℕ) (p : ℕ → Bool) → all_below n p ≡ true → (k : ℕ) → k < n → p k ≡ true
all_at zero p e k l = absurd (omega arith)
all_at (suc n) p e k l =
    let parts = and_parts (p n) (all_below n p) e in
    elim (cases_eq k n) [
      | inl s ↦ ap p s ∙ parts.0
      | inr s ↦ all_at n p parts.1 k (omega arith)
    ]

-- the entry of state n is what the rules make of it
pub entry_is : (b : Bool) (n : ℕ) → n < 128 → get_or hexagonal.house (entry_place hexagonal b n) 0 ≡ house_rule b n
entry_is false n l =
    let low = map (house_rule false) (range_with_len 0 128) in
    let high = map (house_rule true) (range_with_len 0 128) in
    let at : entry_place hexagonal false n ≡ n = omega arith in
    ap (λ (k : ℕ). get_or (low ++ high) k 0) at
    ∙ get_or_append_left low high 0 n (omega (arith, length-map-range_with_len (house_rule false) 0 128))
    ∙ get_or-map-range_with_len (house_rule false) 0 128 n n 0 l (zero-add n)
entry_is true n l =
    let low = map (house_rule false) (range_with_len 0 128) in
    let high = map (house_rule true) (range_with_len 0 128) in
    let at : entry_place hexagonal true n - 128 ≡ n = omega arith in
    get_or-append_right low high 128 (entry_place hexagonal true n) 0 (length-map-range_with_len (house_rule false) 0 128) (omega arith)
    ∙ ap (λ (k : ℕ). get_or high k 0) at
    ∙ get_or-map-range_with_len (house_rule true) 0 128 n n 0 l (zero-add n)

pub outcome_is : (b : Bool) (n : ℕ) → n < 128 → outcome hexagonal hexagonal.house b n ≡ house_rule b n
outcome_is b n l = cond-true (ltb n 128) (get_or hexagonal.house (entry_place hexagonal b n) 0) n (lt-ltb n 128 l) ∙ entry_is b n l

-- no rule undoes what another says, and each names a state: one test over all of them
abbrev agrees : Bool → ℕ → Bool
agrees b k = ltb (rule_state b k) 128 && eqb (house_rule b (rule_state b k)) (rule_outcome b k)

all_agree : (b : Bool) → all_below (length (rules b)) (agrees b) ≡ true
all_agree true = refl
all_agree false = refl

-- a state that no rule names
applied-none : (rs : List (ℕ × ℕ)) (n : ℕ) → ((k : ℕ) → k < length rs → n ≡ (get_or rs k (0, 0)).0 → ⊥) → applied rs n ≡ n
applied-none [] n h = refl
applied-none (r ∷ rs) n h =
    cond-false (eqb n r.0) r.1 (applied rs n) (ne_eqb n r.0 (h 0 (omega arith)))
    ∙ applied-none rs n (λ k l. h (suc k) (omega arith))

pub house_rules : HouseRules hexagonal.house
house_rules = record {
  each = λ b k l.
      let parts = and_parts (ltb (rule_state b k) 128) (eqb (house_rule b (rule_state b k)) (rule_outcome b k)) (all_at (length (rules b)) (agrees b) (all_agree b) k l) in
      outcome_is b (rule_state b k) (ltb-true _ _ parts.0) ∙ eqb-true _ _ parts.1;
  others = λ b n h.
      elim (cases_lt n 128) [
        | inl l ↦ outcome_is b n l ∙ applied-none (rules b) n h
        | inr l ↦ cond-false (ltb n 128) (get_or hexagonal.house (entry_place hexagonal b n) 0) n (le-ltb n 128 l)
      ];
}
