-- Text put into a lent buffer from a place on. What does not fit is left out, and the place behind the text is told all the same, up to the largest
-- place that can be told; so a text is measured by putting it into a buffer of no bytes.
use Rattle.std.specs.Prelude.{◌≡◌, ℕ, zero, suc, ◌+◌, ◌-◌, ◌^◌, min, Bool, cond, List, [], ◌∷◌, ◌++◌, length, drop, Some, None, Option, nat_le}

-- the buffer with the text from place `at` on
unfoldable pub put : List ℕ → ℕ → List ℕ → List ℕ
put [] at text = []
put (x ∷ out) (suc at) text = x ∷ put out at text
put (x ∷ out) zero [] = x ∷ out
put (x ∷ out) zero (y ∷ text) = y ∷ put out zero text

-- the place behind a text that begins at `at`
unfoldable pub behind : ℕ → List ℕ → ℕ
behind at text = min (at + length text) (2 ^ 64 - 1)

-- the text is put at `at`, ends at `end`, and leaves the buffer so
pub record Puts (text out : List ℕ) (at end : ℕ) (after : List ℕ) : Type 0 where
  pub end_is : end ≡ behind at text
  pub after_is : after ≡ put out at text

-- a text in the place of a buffer's first bytes
abbrev pub over : List ℕ → List ℕ → List ℕ
over text out = text ++ drop (length text) out

-- whether a text is no longer than the buffer
abbrev pub fits : List ℕ → List ℕ → Bool
fits text out = nat_le (length text) (length out)

-- a text that fits is written, and its length is the answer; of one that does not fit, nothing is written
pub record Written (text out : List ℕ) (answer : Option ℕ) (after : List ℕ) : Type 0 where
  pub answer_is : answer ≡ cond (fits text out) (Some (length text)) None
  pub after_is : after ≡ cond (fits text out) (over text out) out
