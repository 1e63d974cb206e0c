-- Eight bytes as one number.
use Rattle.std.proofs.Common.{◌≡◌, ℕ, zero, suc, ◌+◌, ◌*◌, ◌<◌, List, [], ◌∷◌, length, get_or, take, drop, sym, ap, ◌∙◌, arith}
use Rattle.std.proofs.lemmas.List.{drop-drop}
use Rattle.std.specs.Simd.{first_chunks}
use Rattle.records.specs.Format.{number}

pub eight_bytes : (bs : List ℕ) → length bs ≡ 8
    → number bs
    ≡ get_or bs 0 0 + get_or bs 1 0 * 256 + get_or bs 2 0 * 65536 + get_or bs 3 0 * 16777216 + get_or bs 4 0 * 4294967296 + get_or bs 5 0 * 1099511627776 + get_or bs 6 0 * 281474976710656
    + get_or bs 7 0 * 72057594037927936
eight_bytes [] h = absurd (omega arith)
eight_bytes (_ ∷ []) h = absurd (omega arith)
eight_bytes (_ ∷ _ ∷ []) h = absurd (omega arith)
eight_bytes (_ ∷ _ ∷ _ ∷ []) h = absurd (omega arith)
eight_bytes (_ ∷ _ ∷ _ ∷ _ ∷ []) h = absurd (omega arith)
eight_bytes (_ ∷ _ ∷ _ ∷ _ ∷ _ ∷ []) h = absurd (omega arith)
eight_bytes (_ ∷ _ ∷ _ ∷ _ ∷ _ ∷ _ ∷ []) h = absurd (omega arith)
eight_bytes (_ ∷ _ ∷ _ ∷ _ ∷ _ ∷ _ ∷ _ ∷ []) h = absurd (omega arith)
eight_bytes (a ∷ b ∷ c ∷ d ∷ e ∷ f ∷ g ∷ h ∷ []) long = omega arith
eight_bytes (_ ∷ _ ∷ _ ∷ _ ∷ _ ∷ _ ∷ _ ∷ _ ∷ _ ∷ rest) h = absurd (omega arith)

-- a chunk stands where those before it end
pub get_or-chunks : (n k : ℕ) (xs : List ℕ) (i : ℕ) → i < k → get_or (first_chunks n k xs) i [] ≡ take n (drop (n * i) xs)
get_or-chunks n zero xs i l = absurd (omega (arith, l))
get_or-chunks n (suc k) xs zero l = let none : n * 0 ≡ 0 = omega arith in sym (ap (λ (m : ℕ). take n (drop m xs)) none)
get_or-chunks n (suc k) xs (suc i) l =
    let more : n + n * i ≡ n * suc i = grind arith in
    get_or-chunks n k (drop n xs) i (omega (arith, l)) ∙ ap (take n) (drop-drop (n * i) n xs) ∙ ap (λ (m : ℕ). take n (drop m xs)) more
