-- What `first` finds: nothing before it passes, and it passes.
use Rattle.std.proofs.Common.{not, position, length-take-le, List, length, take, get_or, ◌≤◌, ◌≡◌, ℕ, zero, suc, ◌<◌, Bool, true, false, cond, Some, None, Option, sym, refl, ap, ◌∙◌, inl, inr, arith}
use Rattle.std.proofs.lemmas.Bool.{cases_eq, cases_lt, lt-ltb, le-ltb, not-true, not-false}
use Rattle.std.specs.List.{position_or_len}
use Rattle.std.proofs.lemmas.List.Sums.{prefix_len_passes, prefix_len_stops}
use Rattle.std.proofs.lemmas.List.{get_or-take}
use Rattle.lattice.specs.Firsts.{or_else, first}

-- where none below n passes, there is none
pub first-none : (n : ℕ) (p : ℕ → Bool) → ((k : ℕ) → k < n → p k ≡ false) → first n p ≡ None
unfolding first
first-none zero p h = refl
first-none (suc n) p h =
    ap (λ (o : Option ℕ). or_else o n (p n)) (first-none n p (λ k l. h k (omega arith)))
    ∙ ap (λ (b : Bool). cond b (Some n) None) (h n (omega arith))

-- where k passes, and none before it, it is k
pub first_some : (n : ℕ) (p : ℕ → Bool) (k : ℕ) → k < n → p k ≡ true → ((j : ℕ) → j < k → p j ≡ false) → first n p ≡ Some k
unfolding first
first_some zero p k l here before = absurd (omega arith)
first_some (suc n) p k l here before =
    elim (cases_eq k n) [
      | inl e ↦
          ap (λ (o : Option ℕ). or_else o n (p n)) (first-none n p (λ j h. before j (omega arith)))
          ∙ ap (λ (b : Bool). cond b (Some n) None) (ap p (sym e) ∙ here) ∙ ap Some (sym e)
      | inr d ↦ ap (λ (o : Option ℕ). or_else o n (p n)) (first_some n p k (omega arith) here before)
    ]

by_found : (o : Option ℕ) (n : ℕ) (b : Bool) → or_else o n b ≡ None → (o ≡ None) × (b ≡ false)
by_found (Some k) n b e = absurd (let z : ◌≡◌ {A = ℕ} 0 1 = cc in omega arith)
by_found None n true e = absurd (let z : ◌≡◌ {A = ℕ} 0 1 = cc in omega arith)
by_found None n false e = (refl, refl)

-- where there is none, none passes
pub none_first : (n : ℕ) (p : ℕ → Bool) → first n p ≡ None → (k : ℕ) → k < n → p k ≡ false
unfolding first
none_first zero p e k l = absurd (omega arith)
none_first (suc n) p e k l =
    let parts = by_found (first n p) n (p n) e in
    elim (cases_eq k n) [
      | inl s ↦ ap p s ∙ parts.1
      | inr d ↦ none_first n p parts.0 k (omega arith)
    ]

-- the first element of a list that passes p stands at the first place whose element passes
pub position_first : (p : ℕ → Bool) (xs : List ℕ) → position p xs ≡ first (length xs) (λ i. p (get_or xs i 0))
position_first p xs =
    let n = position_or_len p xs in
    let before : (k : ℕ) → k < n → p (get_or xs k 0) ≡ false = λ k l. not-true _ (prefix_len_passes (λ x. not (p x)) xs k 0 l) in
    elim (cases_lt n (length xs)) [
      | inl l ↦
          ap (λ (b : Bool). cond b (Some n) None) (lt-ltb _ _ l)
          ∙ sym (first_some (length xs) (λ i. p (get_or xs i 0)) n l (not-false _ (prefix_len_stops (λ x. not (p x)) xs 0 l)) before)
      | inr g ↦
          ap (λ (b : Bool). cond b (Some n) None) (le-ltb _ _ g)
          ∙ sym (first-none (length xs) (λ i. p (get_or xs i 0)) (λ k l. before k (omega (arith, l, g))))
    ]

-- tests that agree below n find the same
pub first_same : (n : ℕ) (p q : ℕ → Bool) → ((k : ℕ) → k < n → p k ≡ q k) → first n p ≡ first n q
unfolding first
first_same zero p q h = refl
first_same (suc n) p q h =
    ap (λ (o : Option ℕ). or_else o n (p n)) (first_same n p q (λ k l. h k (omega (arith, l))))
    ∙ ap (λ (b : Bool). or_else (first n q) n b) (h n (omega arith))

-- the same as `position_first` of the first n elements
pub position_take : (p : ℕ → Bool) (n : ℕ) (xs : List ℕ) → n ≤ length xs → position p (take n xs) ≡ first n (λ i. p (get_or xs i 0))
position_take p n xs long =
    position_first p (take n xs)
    ∙ ap (λ (m : ℕ). first m (λ i. p (get_or (take n xs) i 0))) (length-take-le n xs long)
    ∙ first_same n (λ i. p (get_or (take n xs) i 0)) (λ i. p (get_or xs i 0)) (λ k l. ap p (get_or-take n xs k 0 l))
