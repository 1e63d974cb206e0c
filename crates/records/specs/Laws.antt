-- A skippable record changes nothing but the numbers behind it, and a file less its skippable records is its other records.
use Rattle.std.specs.Prelude.{◌≡◌, ℕ, ◌+◌, ◌<◌, ◌≤◌, cond, ◌≢◌, List, ◌++◌, map, length, Ok, Err, nat_lt}
use Rattle.std.specs.List.{AllByRecursion}
use Rattle.faults.specs.declared.record.RecordFault.{RecordFault}
use Rattle.faults.specs.declared.record.RecordFault.TheVariants.{Size, Cut, Check, Kind, Order, Ending}
use Rattle.records.specs.declared.payloads.Places.{Places}
use Rattle.records.specs.Format.{Bytes, record_of}
use Rattle.records.specs.Walk.{walked}
use Rattle.records.specs.Files.{Rec, Fine, laid, kept, less}
use Rattle.records.specs.Layout.{parts}

-- behind the first n records a number counts one more when a record is put in there
abbrev pub one_more : ℕ → ℕ → ℕ
one_more n r = cond (nat_lt r n) r (r + 1)

-- so a numbered payload keeps its bytes
abbrev pub shifted : ℕ → ℕ × List ℕ → ℕ × List ℕ
shifted n p = (one_more n p.0, p.1)

-- and a fault stays the same fault
abbrev pub fault_shifted : ℕ → RecordFault → RecordFault
fault_shifted n Size = Size
fault_shifted n (Cut r) = Cut (one_more n r)
fault_shifted n (Check r) = Check (one_more n r)
fault_shifted n (Kind r) = Kind (one_more n r)
fault_shifted n (Order r) = Order (one_more n r)
fault_shifted n (Ending r) = Ending (one_more n r)

-- the two walks are done together, and then find the same payloads; and they are refused together, for the same fault
pub record SameWalk (limit : ℕ) (n : ℕ) (with_it without : List ℕ) : Type 0 where
  pub taken_out : (places : Places) → walked limit with_it ≡ Ok places → (fewer : Places) × (walked limit without ≡ Ok fewer) × (parts with_it places ≡ map (shifted n) (parts without fewer))
  pub put_in : (fewer : Places) → walked limit without ≡ Ok fewer → (places : Places) × (walked limit with_it ≡ Ok places) × (parts with_it places ≡ map (shifted n) (parts without fewer))
  pub refused : (f : RecordFault) → 0 < length without → walked limit without ≡ Err f → walked limit with_it ≡ Err (fault_shifted n f)

-- a skippable record, put in behind whole records of which none is the end, changes nothing
abbrev pub SkipsChangeNothing : Type 0
SkipsChangeNothing = (limit : ℕ) (fs : List Rec) (s : Rec) (back : List ℕ) → AllByRecursion Fine fs → AllByRecursion (λ f. f.kind ≢ 1) fs → Fine s → 128 ≤ s.kind → Bytes back → length (laid fs ++ (record_of s.kind s.payload ++ back)) ≤ limit → SameWalk limit (length fs) (laid fs ++ (record_of s.kind s.payload ++ back)) (laid fs ++ back)

-- the bytes of records, less the skippable ones, are the bytes of the records that are kept
abbrev pub Sifts : Type 0
Sifts = (rs : List Rec) → AllByRecursion Fine rs → less (laid rs) ≡ laid (kept rs)
