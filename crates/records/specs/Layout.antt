-- The walk is done exactly of the files that are records in order, and then gives the numbers of the known records and the places of their payloads.
use Rattle.std.specs.Prelude.{◌≡◌, ℕ, ◌+◌, ◌≤◌, cond, List, [], ◌∷◌, map, length, take, drop, Ok, Result}
use Rattle.std.specs.List.{AllByRecursion}
use Rattle.faults.specs.declared.record.RecordFault.{RecordFault}
use Rattle.records.specs.declared.payloads.Place.{Place}
use Rattle.records.specs.declared.payloads.Places.{Places}
use Rattle.records.specs.Orders.{skippable}
use Rattle.records.specs.Files.{Rec, IsFile}

-- the numbers and payloads of the records that are not skipped; those that are skipped count
abbrev pub numbered_from : ℕ → List Rec → List (ℕ × List ℕ)
numbered_from n [] = []
numbered_from n (r ∷ rs) = cond (skippable r.kind) (numbered_from (n + 1) rs) ((n, r.payload) ∷ numbered_from (n + 1) rs)

abbrev pub numbered : List Rec → List (ℕ × List ℕ)
numbered rs = numbered_from 0 rs

-- the places in file order
abbrev pub listed : Places → List Place
listed p = p.head ∷ p.rules ∷ p.map ∷ p.field ∷ p.book ∷ p.end ∷ []

-- the payload at a place
abbrev pub payload_at : List ℕ → Place → List ℕ
payload_at file p = take p.length (drop p.start file)

-- the numbers and payloads that places give
abbrev pub part : List ℕ → Place → ℕ × List ℕ
part file p = (p.«record», payload_at file p)

abbrev pub parts : List ℕ → Places → List (ℕ × List ℕ)
parts file places = map (part file) (listed places)

-- a payload lies behind its header and within the file
abbrev pub Inside : List ℕ → Place → Type 0
Inside file p = (8 ≤ p.start) × (p.start + p.length ≤ length file)

-- the places of the records of a file
pub record Found (limit : ℕ) (file : List ℕ) (places : Places) (rs : List Rec) : Type 0 where
  pub is_file : IsFile limit file rs
  pub same_parts : parts file places ≡ numbered rs
  pub inside : AllByRecursion (Inside file) (listed places)

-- the walk is done exactly if there are such records, and then it gives their places
pub record Layout (limit : ℕ) (file : List ℕ) (r : Result Places RecordFault) : Type 0 where
  pub sound : (places : Places) → r ≡ Ok places → (rs : List Rec) × Found limit file places rs
  pub complete : (rs : List Rec) → IsFile limit file rs → (places : Places) × (r ≡ Ok places) × Found limit file places rs
