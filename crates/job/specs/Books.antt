-- A book has the accounts 1 to 16 in turn, along and then across, each number in eight bytes, lowest first, in two's complement.
use Rattle.std.specs.Prelude.{ℕ, ◌+◌, ◌*◌, List, ℤ}
use Rattle.std.specs.Int.{w64}
use Rattle.std.proofs.Common.{to_z}
use Rattle.lattice.specs.declared.vector.Vector.{Vector as Account}
use Rattle.book.specs.Accounts.{accounts}
use Rattle.dynamics.specs.Tunnels.{listed}
use Rattle.job.specs.Heads.{number_at}

abbrev pub book_length : ℕ
book_length = 256

-- number i of the book, from 0
abbrev pub number_of : List ℕ → ℕ → ℤ
number_of bytes i = to_z w64 (number_at bytes (8 * i) 8)

-- the account at place k, from 0
abbrev pub account_in : List ℕ → ℕ → Account
account_in bytes k = record { along = number_of bytes (2 * k); across = number_of bytes (2 * k + 1) }

-- all of them
unfoldable pub accounts_of : List ℕ → List Account
accounts_of bytes = listed accounts (account_in bytes)
