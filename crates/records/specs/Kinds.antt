-- The known kinds of record have the numbers 1 to 6: the end, the head, the rules, the map, the field and the book.
use Rattle.std.specs.Prelude.{◌≡◌, ℕ, Bool, false, cond, Ok, Err, Result, nat_le}
use Rattle.records.specs.declared.kinds.Kind.{Kind}
use Rattle.records.specs.declared.kinds.Kind.TheVariants.{End, Head, Rules, Map, Field, Book}
use Rattle.records.specs.declared.kinds.UnknownKind.{UnknownKind}

abbrev pub number_of : Kind → ℕ
number_of End = 1
number_of Head = 2
number_of Rules = 3
number_of Map = 4
number_of Field = 5
number_of Book = 6

abbrev pub known : ℕ → Bool
known k = cond (nat_le 1 k) (nat_le k 6) false

-- the kind that has the number, or none has it
abbrev pub Numbered : ℕ → Result Kind UnknownKind → Type 0
Numbered k (Ok kind) = k ≡ number_of kind
Numbered k (Err e) = known k ≡ false
