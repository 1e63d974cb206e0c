-- A number at a place of bytes, written again.
use Rattle.std.proofs.Common.{◌≡◌, ℕ, ◌+◌, ◌^◌, ◌<◌, ◌≤◌, List, ◌++◌, length, take, drop, ℤ, pos, negsuc, sym, ap, ◌∙◌, subst, arith, w64, SFits, to_z, of_z}
use Rattle.std.proofs.lemmas.List.{length-take-le, length-drop, take-append-drop, drop-drop}
use Rattle.std.proofs.ByRecursion.{All-take, All-drop}
use Rattle.std.proofs.lemmas.Int.{of_z-to_z}
use Rattle.records.specs.Format.{Bytes, le}
use Rattle.records.proofs.Numbers.{le-number, number_under}
use Rattle.job.specs.Heads.{number_at}

module _ (bs : List ℕ) (all : Bytes bs) (w at : ℕ) (long : at + w ≤ length bs) where
  width : length (take w (drop at bs)) ≡ w
  width = length-take-le w (drop at bs) (omega (arith, length-drop at bs))

  these : Bytes (take w (drop at bs))
  these = All-take (λ b. b < 256) w (drop at bs) (All-drop (λ b. b < 256) at bs all)

  pub under : number_at bs at w < 256 ^ w
  under = subst (λ n. number_at bs at w < 256 ^ n) width (number_under (take w (drop at bs)) these)

  rest : take w (drop at bs) ++ drop (at + w) bs ≡ drop at bs
  rest = ap (λ l. take w (drop at bs) ++ l) (sym (drop-drop w at bs)) ∙ take-append-drop w (drop at bs)

  -- with what is behind it, it is the bytes from there on
  pub again : le w (number_at bs at w) ++ drop (at + w) bs ≡ drop at bs
  again = ap (λ l. l ++ drop (at + w) bs) (subst (λ n. le n (number_at bs at w) ≡ take w (drop at bs)) width (le-number (take w (drop at bs)) these)) ∙ rest

-- and so is a signed number
pub signed_again : (bs : List ℕ) → Bytes bs → (at : ℕ) → at + 8 ≤ length bs → le 8 (of_z w64 (to_z w64 (number_at bs at 8))) ++ drop (at + 8) bs ≡ drop at bs
signed_again bs all at long = ap (λ n. le 8 n ++ drop (at + 8) bs) (of_z-to_z w64 (number_at bs at 8) (under bs all 8 at long)) ∙ again bs all 8 at long

pub of_z_under : (z : ℤ) → SFits w64 z → of_z w64 z < 256 ^ 8
of_z_under (pos n) h = let f = h.sfits in omega arith
of_z_under (negsuc n) h = let f = h.sfits in omega arith
