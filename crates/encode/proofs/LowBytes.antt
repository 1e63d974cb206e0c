-- Numbers as bytes, the lowest first.
use Rattle.std.proofs.Common.{◌≡◌, ℕ, ℤ, ap, ◌∙◌, rules, w32, w64, SFits, to_z, of_z}
use Rattle.std.specs.Int.{to_le_bytes}
use Rattle.std.proofs.lemmas.Int.{to_z-of_z}
use Rattle.records.specs.Format.{le}

pub le_4 : (n : ℕ) → to_le_bytes w32 n ≡ le 4 n
le_4 n = search rules

le_8 : (n : ℕ) → to_le_bytes w64 n ≡ le 8 n
le_8 n = search rules

-- a signed number, as the machine holds it
pub le_signed : (x : ℤ) → SFits w64 x → to_le_bytes w64 (of_z w64 (to_z w64 (of_z w64 x))) ≡ le 8 (of_z w64 x)
le_signed x fits = le_8 (of_z w64 (to_z w64 (of_z w64 x))) ∙ ap (λ (z : ℤ). le 8 (of_z w64 z)) (to_z-of_z w64 x fits)
