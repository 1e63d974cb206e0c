-- On a ring of n places, one on and one back undo each other.
use Rattle.std.proofs.Common.{◌≡◌, ℕ, ◌+◌, ◌-◌, ◌%◌, ◌<◌, ◌≤◌, ap, ◌∙◌, inl, inr, mod-eq_of_lt, arith}
use native.Mathlib.Nat.{mod-eq-sub-mod}
use Rattle.std.proofs.lemmas.Nat.{mod_below}
use Rattle.std.proofs.lemmas.Bool.{cases_lt, cases_eq}
use Rattle.lattice.specs.Grids.{onward, backward}

pub wrap_in : (n w : ℕ) → n < w → n % w ≡ n
wrap_in n w h = mod-eq_of_lt h

pub wrap_over : (n w : ℕ) → w ≤ n → n < w + w → n % w ≡ n - w
wrap_over n w h k = let l : n - w < w = omega arith in mod-eq-sub-mod h ∙ mod-eq_of_lt l

pub onward_in : (n i : ℕ) → 0 < n → onward n i < n
onward_in n i h = mod_below (i + 1) n h

pub backward_in : (n i : ℕ) → 0 < n → backward n i < n
backward_in n i h = mod_below (i + n - 1) n h

pub back_on : (n i : ℕ) → i < n → backward n (onward n i) ≡ i
back_on n i h =
    elim (cases_lt (i + 1) n) [
      | inl l ↦ ap (backward n) (wrap_in (i + 1) n l) ∙ wrap_over (i + 1 + n - 1) n (omega arith) (omega arith) ∙ omega arith
      | inr l ↦
          let e : onward n i ≡ 0 = wrap_over (i + 1) n l (omega arith) ∙ omega arith in
          ap (backward n) e ∙ wrap_in (0 + n - 1) n (omega arith) ∙ omega arith
    ]

pub on_back : (n i : ℕ) → i < n → onward n (backward n i) ≡ i
on_back n i h =
    elim (cases_eq i 0) [
      | inl z ↦
          let e : backward n i ≡ n - 1 = ap (backward n) z ∙ wrap_in (0 + n - 1) n (omega arith) ∙ omega arith in
          ap (onward n) e ∙ wrap_over (n - 1 + 1) n (omega arith) (omega arith) ∙ omega arith
      | inr d ↦
          let e : backward n i ≡ i - 1 = wrap_over (i + n - 1) n (omega arith) (omega arith) ∙ omega arith in
          ap (onward n) e ∙ wrap_in (i - 1 + 1) n (omega arith) ∙ omega arith
    ]

-- one on and one back by a comparison
pub onward_next : (n i : ℕ) → i + 1 < n → onward n i ≡ i + 1
onward_next n i h = wrap_in (i + 1) n h

pub onward-first : (n i : ℕ) → i < n → n ≤ i + 1 → onward n i ≡ 0
onward-first n i h k = wrap_over (i + 1) n k (omega arith) ∙ omega arith

-- also one beyond the end
pub backward_next : (n i : ℕ) → 0 < i → i ≤ n → backward n i ≡ i - 1
backward_next n i h k = wrap_over (i + n - 1) n (omega arith) (omega arith) ∙ omega arith

pub backward_last : (n i : ℕ) → i ≡ 0 → 0 < n → backward n i ≡ n - 1
backward_last n i h k = wrap_in (i + n - 1) n (omega arith) ∙ omega arith
