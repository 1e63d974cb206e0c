-- `position` finds the first place that passes, and finds none exactly where no element passes.
use Rattle.std.proofs.Common.{◌≡◌, ℕ, ◌<◌, Bool, false, cond, List, length, get_or, position, Some, None, refl, sym, ap, ◌∙◌, inl, inr, arith}
use Rattle.std.specs.List.{position_or_len}
use Rattle.std.proofs.lemmas.Bool.{cases_lt, lt-ltb, le-ltb}
use Rattle.std.proofs.lemmas.List.Sums.{fails_before_first, passes_at_first}
use Rattle.lattice.specs.Firsts.{first}
use Rattle.lattice.proofs.Firsts.{first-none, first_some, none_first}

pub position_first : {X : Type 0} (p : X → Bool) (q : ℕ → Bool) (xs : List X) (d : X) → ((i : ℕ) → i < length xs → q i ≡ p (get_or xs i d)) → position p xs ≡ first (length xs) q
position_first p q xs d same =
    let n = position_or_len p xs in
    elim (cases_lt n (length xs)) [
      | inl found ↦
          ap (λ (b : Bool). cond b (Some n) None) (lt-ltb _ _ found)
          ∙ sym (first_some (length xs) q n found (same n found ∙ passes_at_first p xs d found) (λ j l. same j (omega (arith, l, found)) ∙ fails_before_first p xs j d l))
      | inr past ↦
          ap (λ (b : Bool). cond b (Some n) None) (le-ltb _ _ past)
          ∙ sym (first-none (length xs) q (λ k l. same k l ∙ fails_before_first p xs k d (omega (arith, l, past))))
    ]

pub none_passes : (p : ℕ → Bool) (xs : List ℕ) → position p xs ≡ None → (i : ℕ) → i < length xs → p (get_or xs i 0) ≡ false
none_passes p xs e = none_first (length xs) (λ i. p (get_or xs i 0)) (sym (position_first p (λ i. p (get_or xs i 0)) xs 0 (λ i l. refl)) ∙ e)

pub passes_none : (p : ℕ → Bool) (xs : List ℕ) → ((i : ℕ) → i < length xs → p (get_or xs i 0) ≡ false) → position p xs ≡ None
passes_none p xs all = position_first p (λ i. p (get_or xs i 0)) xs 0 (λ i l. refl) ∙ first-none (length xs) (λ i. p (get_or xs i 0)) all
