-- The product of a count of cells and a number of a vector is small.
use Rattle.std.proofs.Common.{◌≡◌, ℕ, zero, suc, ◌≤◌, ℤ, pos, negsuc, ◌*ℤ◌, nat_abs, ap, ◌∙◌, arith, w64, SFits, to_z, of_z}
use Rattle.std.proofs.lemmas.Int.{ints, to_z-of_z}

pub product_small : (n : ℕ) (v : ℤ) → n ≤ 16384 → nat_abs v ≤ 2 → nat_abs (pos n *ℤ v) ≤ 32768
product_small n (pos zero) few short = omega (arith, ints)
product_small n (pos (suc zero)) few short = omega (arith, ints)
product_small n (pos (suc (suc zero))) few short = omega (arith, ints)
product_small n (pos (suc (suc (suc k)))) few short = absurd (omega arith)
product_small n (negsuc zero) few short = omega (arith, ints)
product_small n (negsuc (suc zero)) few short = omega (arith, ints)
product_small n (negsuc (suc (suc k))) few short = absurd (omega arith)

-- as the machine multiplies
pub product_is : (n : ℕ) (x y : ℤ) → SFits w64 x → SFits w64 y → x ≡ pos n → to_z w64 (of_z w64 x) *ℤ to_z w64 (of_z w64 y) ≡ pos n *ℤ y
product_is n x y fx fy is = (λ j. to_z-of_z w64 x fx j *ℤ to_z-of_z w64 y fy j) ∙ ap (λ (z : ℤ). z *ℤ y) is
