-- The known kinds stand once each in the order 2, 3, 4, 5, 6, 1; kinds 128 to 255 may stand anywhere before the end.
use Rattle.std.specs.Prelude.{ℕ, Bool, cond, Some, None, Option, Ok, Err, Result, ◌==◌, nat_le}
use Rattle.records.specs.declared.kinds.Kind.{Kind}
use Rattle.records.specs.declared.kinds.Kind.TheVariants.{End, Head, Rules, Map, Field, Book}
use Rattle.records.specs.declared.sequence.Order.{Order}
use Rattle.records.specs.declared.sequence.OrderFault.{OrderFault}
use Rattle.records.specs.declared.sequence.OrderFault.TheVariants.{Unknown, NotNext}
use Rattle.records.specs.Kinds.{number_of, known}

abbrev pub begun : Order
begun = record { next = Some Head }

-- the number of the kind that is awaited; 0, behind the end, is the number of no record
abbrev pub awaited : Option Kind → ℕ
awaited (Some kind) = number_of kind
awaited None = 0

-- the kind behind one, of those that are not skipped
abbrev pub following : Option Kind → Option Kind
following (Some Head) = Some Rules
following (Some Rules) = Some Map
following (Some Map) = Some Field
following (Some Field) = Some Book
following (Some Book) = Some End
following (Some End) = None
following None = None

abbrev pub skippable : ℕ → Bool
skippable k = nat_le 128 k

-- what becomes of a record of kind k: it is skipped, or it is the awaited one
abbrev pub answer : Option Kind → ℕ → Result (Option Kind) OrderFault
answer e k = cond (skippable k) (Ok None) (cond (known k) (cond (k == awaited e) (Ok e) (Err NotNext)) (Err Unknown))

-- what is awaited then
abbrev pub moved : Option Kind → ℕ → Option Kind
moved e k = cond (known k) (cond (k == awaited e) (following e) e) e
