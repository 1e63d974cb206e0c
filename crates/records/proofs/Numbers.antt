-- Numbers in bytes, the lowest first: written and read.
use Rattle.std.proofs.Common.{◌≡◌, ℕ, zero, suc, ◌+◌, ◌*◌, ◌/◌, ◌%◌, ◌^◌, ◌<◌, List, [], ◌∷◌, length, refl, ap, ◌∙◌, arith}
use native.Mathlib.Nat.{pow-succ'}
use Rattle.records.specs.Format.{Bytes, number, le}

pub length-le : (w x : ℕ) → length (le w x) ≡ w
length-le zero x = refl
length-le (suc w) x = ap suc (length-le w (x / 256))

pub le_bytes : (w x : ℕ) → Bytes (le w x)
le_bytes zero x = tt
le_bytes (suc w) x = (omega arith, le_bytes w (x / 256))

pub number-le : (w x : ℕ) → x < 256 ^ w → number (le w x) ≡ x
number-le zero x h = omega arith
number-le (suc w) x h = let p = pow-succ' 256 w in ap (λ n. x % 256 + 256 * n) (number-le w (x / 256) (omega arith)) ∙ omega arith

pub le-number : (bs : List ℕ) → Bytes bs → le (length bs) (number bs) ≡ bs
le-number [] all = refl
le-number (b ∷ bs) all =
    let low : (b + 256 * number bs) % 256 ≡ b = omega arith in
    let high : (b + 256 * number bs) / 256 ≡ number bs = omega arith in
    (λ i. low i ∷ le (length bs) (high i)) ∙ ap (λ l. b ∷ l) (le-number bs all.1)

pub number_under : (bs : List ℕ) → Bytes bs → number bs < 256 ^ length bs
number_under [] all = omega arith
number_under (b ∷ bs) all = let p = pow-succ' 256 (length bs) in let h = number_under bs all.1 in omega arith
