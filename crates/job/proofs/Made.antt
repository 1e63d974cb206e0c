-- What `array::from_fn` makes by a closure that its calls leave as it was.
use Rattle.std.proofs.Common.{◌≡◌, ℕ, zero, suc, ◌+◌, ◌<◌, ◌≤◌, List, get_or, sym, ap, ◌∙◌, subst, inl, inr, arith}
use Rattle.std.proofs.lemmas.Bool.{cases_eq}
use Rattle.std.specs.Fn.{Called}
use Rattle.std.specs.Array.{IsFromFnResultFrom}
use denote.Param.Members.{Mut}

module _ {F B : Type 0} (g : Mut F (ℕ × Unit {0}) B) (f : F) (v : ℕ → B) (same : (i : ℕ) (y : B) (q : F) → Called g f (i, tt) y q → (y ≡ v i) × (q ≡ f)) where
  pub made_each : (i n : ℕ) (p : F) (ys : List B) → p ≡ f → IsFromFnResultFrom g p ys i n → (k : ℕ) (d : B) → i ≤ k → k < i + n → get_or ys k d ≡ v k
  made_each i zero p ys is made k d low high = absurd (omega (arith, low, high))
  made_each i (suc n) p ys is (q, y, here, called, more) k d low high =
      let told = same i y q (subst (λ (h : F). Called g h (i, tt) y q) is called) in
      elim (cases_eq k i) [
        | inl e ↦ ap (λ (j : ℕ). get_or ys j d) e ∙ here.1 d ∙ told.0 ∙ ap v (sym e)
        | inr other ↦ made_each (i + 1) n q ys told.1 more k d (omega (arith, low, other)) (omega (arith, high))
      ]
