-- What the program prints: the step count, the plate's account and the particles, a line each.
use Rattle.std.specs.Prelude.{ℕ, List, ◌++◌, ℤ, codes, decimal}
use Rattle.std.specs.Fmt.{signed_decimal}

abbrev pub drag_lines : ℕ → ℤ → ℤ → ℕ → List ℕ
drag_lines steps along across particles =
    codes "steps " ++ (decimal steps ++ (codes "\nplate " ++ (signed_decimal along ++ (codes " " ++ (signed_decimal across
    ++ (codes "\nparticles " ++ (decimal particles ++ codes "\n")))))))
