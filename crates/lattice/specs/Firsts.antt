-- The first number below n that passes a test, if there is one.
use Rattle.std.specs.Prelude.{ℕ, zero, suc, Bool, cond, Some, None, Option}

-- what was found before, or else n if it passes
abbrev pub or_else : Option ℕ → ℕ → Bool → Option ℕ
or_else (Some k) n passes = Some k
or_else None n passes = cond passes (Some n) None

unfoldable pub first : ℕ → (ℕ → Bool) → Option ℕ
first zero p = None
first (suc n) p = or_else (first n p) n (p n)
