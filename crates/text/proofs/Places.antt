-- Texts put into a buffer one behind the other.
use Rattle.std.proofs.Common.{◌≡◌, ℕ, zero, suc, ◌+◌, ◌-◌, ◌^◌, ◌<◌, ◌≤◌, min, List, [], ◌∷◌, ◌++◌, length, set, sym, refl, ap, ◌∙◌, subst, inl, inr, suc-add, zero-add, arith, length-append}
use Rattle.std.proofs.lemmas.Bool.{cases_order}
use Rattle.text.specs.Buffers.{put, behind, Puts, over}

put-put : (out : List ℕ) (at : ℕ) (s t : List ℕ) → put (put out at s) (at + length s) t ≡ put out at (s ++ t)
unfolding put
put-put [] at s t = refl
put-put (x ∷ out) (suc at) s t = rw suc-add (ap (λ (o : List ℕ). x ∷ o) (put-put out at s t))
put-put (x ∷ out) zero [] t = refl
put-put (x ∷ out) zero (y ∷ s) t = rw zero-add (ap (λ (o : List ℕ). y ∷ o) (ap (λ (n : ℕ). put (put out 0 s) n t) (sym (zero-add (length s))) ∙ put-put out 0 s t))

length-put : (out : List ℕ) (at : ℕ) (t : List ℕ) → length (put out at t) ≡ length out
unfolding put
length-put [] at t = refl
length-put (x ∷ out) (suc at) t = ap suc (length-put out at t)
length-put (x ∷ out) zero [] = refl
length-put (x ∷ out) zero (y ∷ t) = ap suc (length-put out 0 t)

-- beyond the end nothing is put
put-past : (out : List ℕ) (at : ℕ) (t : List ℕ) → length out ≤ at → put out at t ≡ out
unfolding put
put-past [] at t l = refl
put-past (x ∷ out) (suc at) t l = ap (λ (o : List ℕ). x ∷ o) (put-past out at t (omega arith))
put-past (x ∷ out) zero t l = absurd (omega arith)

put-none : (out : List ℕ) (at : ℕ) → put out at [] ≡ out
unfolding put
put-none [] at = refl
put-none (x ∷ out) (suc at) = ap (λ (o : List ℕ). x ∷ o) (put-none out at)
put-none (x ∷ out) zero = refl

put_one : (out : List ℕ) (at y : ℕ) → put out at (y ∷ []) ≡ set out at y
unfolding put
put_one [] at y = refl
put_one (x ∷ out) (suc at) y = ap (λ (o : List ℕ). x ∷ o) (put_one out at y)
put_one (x ∷ out) zero y = ap (λ (o : List ℕ). y ∷ o) (put-none out 0)

-- a text that fits, from the first place on
put_all : (out text : List ℕ) → length text ≤ length out → put out 0 text ≡ over text out
unfolding put
put_all [] [] l = refl
put_all [] (y ∷ text) l = absurd (omega arith)
put_all (x ∷ out) [] l = refl
put_all (x ∷ out) (y ∷ text) l = ap (λ (o : List ℕ). y ∷ o) (put_all out text (omega arith))

pub puts_none : (out : List ℕ) (at : ℕ) → at < 2 ^ 64 → Puts [] out at at out
unfolding behind
puts_none out at l = record { end_is = omega arith; after_is = sym (put-none out at) }

-- a place beyond the end is as good as another
same_place : (xs : List ℕ) (n e : ℕ) (t : List ℕ) → length xs < 2 ^ 64 → e ≡ min n (2 ^ 64 - 1) → put xs e t ≡ put xs n t
same_place xs n e t short is =
    elim (cases_order n (2 ^ 64)) [
      | inl s ↦ put-past xs e t (omega arith) ∙ sym (put-past xs n t (omega arith))
      | inr (inl l) ↦ ap (λ (k : ℕ). put xs k t) (let k : e ≡ n = omega arith in k)
      | inr (inr l) ↦ put-past xs e t (omega arith) ∙ sym (put-past xs n t (omega arith))
    ]

-- a second text behind a first
pub puts_then : {s t out o o' : List ℕ} {at e e' : ℕ} → length out < 2 ^ 64 → Puts s out at e o → Puts t o e e' o' → Puts (s ++ t) out at e' o'
unfolding behind
puts_then {s} {t} {out} {o} {o'} {at} {e} {e'} short a b = record {
  end_is = omega (arith, length-append s t);
  after_is =
      b.after_is ∙ ap (λ (x : List ℕ). put x e t) a.after_is
      ∙ same_place (put out at s) (at + length s) e t (omega (arith, length-put out at s)) a.end_is
      ∙ put-put out at s t;
}

-- one byte, where there is a place for it
pub puts_byte : {out o : List ℕ} {at e : ℕ} (y : ℕ) → e ≡ min (at + 1) (2 ^ 64 - 1) → o ≡ set out at y → Puts (y ∷ []) out at e o
unfolding behind
puts_byte {out} {o} {at} {e} y end after = record { end_is = end; after_is = after ∙ sym (put_one out at y) }

-- the same text in other words
pub puts_same : {s t out o : List ℕ} {at e : ℕ} → s ≡ t → Puts s out at e o → Puts t out at e o
puts_same {out = out} {o = o} {at = at} {e = e} is a = subst (λ (x : List ℕ). Puts x out at e o) is a

-- from the first place on: a text's length, and the buffer after one that fits
pub measured : {text out o : List ℕ} {e : ℕ} → Puts text out 0 e o → e ≡ min (length text) (2 ^ 64 - 1)
unfolding behind
measured {text} {out} {o} {e} a = omega (arith, a.end_is)

pub filled : {text out o : List ℕ} {e : ℕ} → length out < 2 ^ 64 → length text ≤ length out → Puts text out 0 e o → (e ≡ length text) × (o ≡ over text out)
unfolding behind
filled {text} {out} {o} {e} short l a = (omega (arith, a.end_is), a.after_is ∙ put_all out text l)
