-- The accounts of a book one behind the other.
use Rattle.std.proofs.Common.{◌≡◌, ℕ, ◌+◌, ◌<◌, List, [], ◌++◌, length, get_or, take, sym, refl, ap, ◌∙◌}
use Rattle.std.proofs.lemmas.List.{take_more, flat_map_more}
use Rattle.lattice.specs.declared.vector.Vector.{Vector as Account}
use Rattle.book.specs.Accounts.{none}
use Rattle.encode.specs.Encodings.{account_bytes, book_bytes}

pub book_none : (book : List Account) → [] ≡ book_bytes (take 0 book)
unfolding book_bytes
book_none book = refl

pub book_more : (book : List Account) (k : ℕ) → k < length book → book_bytes (take k book) ++ account_bytes (get_or book k none) ≡ book_bytes (take (k + 1) book)
unfolding book_bytes
book_more book k l = flat_map_more account_bytes [] (take k book) (get_or book k none) ∙ ap book_bytes (sym (take_more book k none l))
