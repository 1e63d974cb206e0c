-- A refused walk tells the first fault in file order: all records before the one that it names are whole, fit their checks and stand in order.
use Rattle.std.specs.Prelude.{◌≡◌, ℕ, ◌+◌, ◌<◌, ◌≤◌, ◌≢◌, ◌⊎◌, List, [], ◌∷◌, ◌++◌, length, Err, Result}
use Rattle.std.specs.List.{AllByRecursion}
use Rattle.faults.specs.declared.record.RecordFault.{RecordFault}
use Rattle.faults.specs.declared.record.RecordFault.TheVariants.{Size, Cut, Check, Kind, Order, Ending}
use Rattle.records.specs.declared.payloads.Places.{Places}
use Rattle.records.specs.Format.{header_of, check_of}
use Rattle.records.specs.Walk.{whole_of, payload_of}
use Rattle.records.specs.Files.{Rec, Fine, laid, kinds, in_order}

-- bs begin with a whole record whose check fits
pub record Stands (bs : List ℕ) : Type 0 where
  pub whole : whole_of bs ≤ length bs
  pub check : check_of (payload_of bs) ≡ (header_of bs).check

-- the file ends inside the record at the front of bs: even a header of no payload takes eight bytes
abbrev pub CutShort : List ℕ → Type 0
CutShort bs = (0 < length bs) × (length bs < whole_of bs)

-- the record is whole, and its check does not fit
abbrev pub CheckWrong : List ℕ → Type 0
CheckWrong bs = (whole_of bs ≤ length bs) × (check_of (payload_of bs) ≢ (header_of bs).check)

-- the kind is 0 or from 7 to 127
abbrev pub NoKind : List ℕ → Type 0
NoKind bs = Stands bs × (((header_of bs).kind ≡ 0) ⊎ ((7 ≤ (header_of bs).kind) × ((header_of bs).kind ≤ 127)))

-- the kind is known, but nothing behind it could make the order whole
abbrev pub NotNext : List Rec → List ℕ → Type 0
NotNext rs bs = Stands bs × (1 ≤ (header_of bs).kind) × ((header_of bs).kind ≤ 6) × ((ks : List ℕ) → kinds rs ++ ((header_of bs).kind ∷ ks) ≢ in_order)

-- the end record is next in order, and the file goes on behind it
abbrev pub NotLast : List Rec → List ℕ → Type 0
NotLast rs bs = Stands bs × ((header_of bs).kind ≡ 1) × (kinds rs ++ (1 ∷ []) ≡ in_order) × (whole_of bs < length bs)

-- what a fault says of the records before it and of the bytes at which it was found
abbrev pub Reason : List Rec → List ℕ → RecordFault → Type 0
Reason rs bs Size = ⊥
Reason rs bs (Cut n) = (n ≡ length rs) × CutShort bs
Reason rs bs (Check n) = (n ≡ length rs) × CheckWrong bs
Reason rs bs (Kind n) = (n ≡ length rs) × NoKind bs
Reason rs bs (Order n) = (n ≡ length rs) × NotNext rs bs
Reason rs bs (Ending n) = ((n ≡ length rs) × (bs ≡ [])) ⊎ ((n ≡ length rs + 1) × NotLast rs bs)

-- records in order stand before the bytes at which the fault was found
pub record FirstFault (file : List ℕ) (f : RecordFault) : Type 0 where
  pub before : List Rec
  pub here : List ℕ
  pub joins : file ≡ laid before ++ here
  pub fine : AllByRecursion Fine before
  pub unended : AllByRecursion (λ r. r.kind ≢ 1) before
  pub order : (ks : List ℕ) × (kinds before ++ ks ≡ in_order)
  pub reason : Reason before here f

-- the file is empty or too long
abbrev pub WrongSize : ℕ → List ℕ → Type 0
WrongSize limit file = (length file ≡ 0) ⊎ (limit < length file)

-- the size is judged before any record
abbrev pub Refused : ℕ → List ℕ → RecordFault → Type 0
Refused limit file f = ((f ≡ Size) × WrongSize limit file) ⊎ ((WrongSize limit file → ⊥) × FirstFault file f)

-- the walk is refused with a fault exactly if it is the first one
pub record Refusal (limit : ℕ) (file : List ℕ) (r : Result Places RecordFault) : Type 0 where
  pub sound : (f : RecordFault) → r ≡ Err f → Refused limit file f
  pub complete : (f : RecordFault) → Refused limit file f → r ≡ Err f
