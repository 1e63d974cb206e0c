-- A sum is the same in any order: re-indexed by a map that has an inverse.
use Rattle.std.proofs.Common.{◌≡◌, ℕ, ◌<◌, Bool, cond, eqb, ℤ, pos, sym, ap, ◌∙◌, inl, inr}
use Rattle.std.proofs.lemmas.Bool.{eq-eqb, ne_eqb, cases_eq}
use Rattle.lattice.specs.Sums.{sum_z}
use Rattle.lattice.proofs.Sums.{sum_same, sum_swap, sum_pick_at}

pub eqb_same : (a b c d : ℕ) → (a ≡ b → c ≡ d) → (c ≡ d → a ≡ b) → eqb a b ≡ eqb c d
eqb_same a b c d to from =
    elim (cases_eq a b) [
      | inl e ↦ eq-eqb a b e ∙ sym (eq-eqb c d (to e))
      | inr apart ↦ ne_eqb a b apart ∙ sym (ne_eqb c d (λ e. apart (from e)))
    ]

-- s maps the numbers below n one to one onto themselves, and t is its inverse
pub record Turning (n : ℕ) (s t : ℕ → ℕ) : Type 0 where
  pub goes : (i : ℕ) → i < n → s i < n
  pub comes : (i : ℕ) → i < n → t i < n
  pub there : (i : ℕ) → i < n → t (s i) ≡ i
  pub back : (i : ℕ) → i < n → s (t i) ≡ i

pub sum_turned : (n : ℕ) (s t : ℕ → ℕ) → Turning n s t → (f : ℕ → ℤ) → sum_z n (λ j. f (s j)) ≡ sum_z n f
sum_turned n s t w f =
    sum_same n _ _ (λ j l. sym (sum_pick_at n (s j) f (w.goes j l)))
    ∙ sum_swap n n (λ j i. cond (eqb (s j) i) (f i) (pos 0))
    ∙ sum_same n _ _ (λ i l.
    sum_same n _ _ (λ j k. ap (λ (b : Bool). cond b (f i) (pos 0))
    (eqb_same (s j) i (t i) j (λ e. sym (ap t e) ∙ w.there j k) (λ e. sym (ap s e) ∙ w.back i l)))
    ∙ sum_pick_at n (t i) (λ _. f i) (w.comes i l))
