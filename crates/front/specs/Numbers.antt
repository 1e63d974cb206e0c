-- A number in a line is its decimal text: digits, with no sign and no leading zero.
use lib.Pointwise.{pointwise}
use Rattle.std.specs.Prelude.{ℕ, ◌+◌, ◌&&◌, List, decimal, Option, nat_eq, nat_le}
use Rattle.lattice.specs.Firsts.{first}

-- the number from 1 to `most` whose decimal text this is
abbrev pub number_up_to : ℕ → List ℕ → Option ℕ
number_up_to most text = first (most + 1) (λ k. nat_le 1 k && pointwise nat_eq text (decimal k))
