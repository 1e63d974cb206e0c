-- The book has sixteen accounts: 1 to 15 are the obstacles', 16 is the fan's. A push changes one account alone.
-- Each number of an account lies within 458,752 × step count of zero.
use Rattle.std.specs.Prelude.{ℕ, ◌-◌, ◌*◌, Bool, true, ◌&&◌, List, [], ◌∷◌, nat_le, slice_index_or, slice_set, unsigned_abs}
use Rattle.lattice.specs.declared.vector.Vector.{Vector}
use Rattle.lattice.specs.Vectors.{still, added}
use Rattle.lattice.specs.declared.vector.Vector.{Vector as Account}

abbrev pub obstacles : ℕ
obstacles = 15

abbrev pub fan_account : ℕ
fan_account = 16

abbrev pub accounts : ℕ
accounts = 16

-- an account of nothing
abbrev pub none : Account
none = still

-- an account after a push
abbrev pub grown : Account → Vector → Account
grown a v = added a v

-- account n, from 1, stands at place n - 1
abbrev pub account_at : List Account → ℕ → Account
account_at book n = slice_index_or book (n - 1) none

-- the book after a push on account n
abbrev pub pushed : List Account → ℕ → Vector → List Account
pushed book n v = slice_set book (n - 1) (grown (account_at book n) v)

-- the most that a step adds to a number, or takes from it
abbrev pub most_push : ℕ
most_push = 458752

-- whether an account's numbers lie within the range after so many steps
abbrev pub account_fits : ℕ → Account → Bool
account_fits steps a = nat_le (unsigned_abs a.along) (most_push * steps) && nat_le (unsigned_abs a.across) (most_push * steps)

-- whether all accounts do
abbrev pub book_fits : ℕ → List Account → Bool
book_fits steps [] = true
book_fits steps (a ∷ more) = account_fits steps a && book_fits steps more
