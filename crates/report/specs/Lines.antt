-- The lines of a report. Fields are parted by one blank, a line ends with byte 10, a negative number has a minus sign, and no number has
-- leading zeros.
use Rattle.std.specs.Prelude.{ℕ, Bool, cond, ◌&&◌, List, [], ◌++◌, pos, codes, decimal, ◌==◌}
use Rattle.std.specs.Fmt.{signed_decimal}
use Rattle.std.specs.Ordering.{int_eq}
use Rattle.lattice.specs.declared.vector.Vector.{Vector}
use Rattle.gas.specs.declared.totals.Totals.{Totals}
use Rattle.book.specs.Accounts.{fan_account}
use Rattle.report.specs.declared.patch.Patch.{Patch}

-- `step` and the step count
abbrev pub step_line : ℕ → List ℕ
step_line steps = codes "step " ++ (decimal steps ++ codes "\n")

-- how every other line ends: along, across
abbrev pub vector_end : Vector → List ℕ
vector_end v = codes " " ++ (signed_decimal v.along ++ (codes " " ++ (signed_decimal v.across ++ codes "\n")))

-- particles, along, across
abbrev pub totals_end : Totals → List ℕ
totals_end t = decimal t.particles ++ vector_end t.momentum

-- a patch: its column, its row, and its totals
abbrev pub patch_line : Patch → List ℕ
patch_line p = decimal p.column ++ (codes " " ++ (decimal p.row ++ (codes " " ++ totals_end p.totals)))

-- `total` and the totals of all cells
abbrev pub total_line : Totals → List ℕ
total_line t = codes "total " ++ totals_end t

-- the fan's account goes by the name `fan`, an obstacle's by `wall` and its number
abbrev pub account_name : ℕ → List ℕ
account_name n = cond (n == fan_account) (codes "fan") (codes "wall " ++ decimal n)

-- whether an account is (0, 0)
abbrev pub is_none : Vector → Bool
is_none a = int_eq a.along (pos 0) && int_eq a.across (pos 0)

-- account n has a line if it is not (0, 0)
abbrev pub account_line : ℕ → Vector → List ℕ
account_line n a = cond (is_none a) [] (account_name n ++ vector_end a)
