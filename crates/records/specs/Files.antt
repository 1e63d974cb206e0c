-- A file is records laid behind each other; without the skippable ones their kinds are 2, 3, 4, 5, 6, 1, and the last is 1.
use Rattle.std.specs.Prelude.{◌≡◌, ℕ, zero, suc, ◌^◌, ◌<◌, ◌≤◌, cond, not, List, [], ◌∷◌, ◌++◌, map, length, take, drop, filter, ◌==◌}
use Rattle.std.specs.List.{flat_map, AllByRecursion}
use Rattle.records.specs.Format.{Bytes, header_of, record_of}
use Rattle.records.specs.Orders.{skippable}
use Rattle.records.specs.Walk.{whole_of}

pub record Rec : Type 0 where
  pub kind : ℕ
  pub payload : List ℕ

abbrev pub rec : ℕ → List ℕ → Rec
rec k p = record { kind = k; payload = p }

-- what a record's fields can say
pub record Fine (r : Rec) : Type 0 where
  pub one_byte : r.kind < 256
  pub short : length r.payload < 2 ^ 24
  pub bytes : Bytes r.payload

-- the records behind each other
abbrev pub laid : List Rec → List ℕ
laid rs = flat_map (λ r. record_of r.kind r.payload) rs

-- less those that are skipped
abbrev pub kept : List Rec → List Rec
kept rs = filter (λ r. not (skippable r.kind)) rs

-- the kinds of those, in file order
abbrev pub kinds : List Rec → List ℕ
kinds rs = map (λ r. r.kind) (kept rs)

-- the kind of the last record; 0 where there is none
abbrev pub last_kind : List Rec → ℕ
last_kind [] = 0
last_kind (r ∷ []) = r.kind
last_kind (r ∷ s ∷ rs) = last_kind (s ∷ rs)

-- the kinds of a whole file
abbrev pub in_order : List ℕ
in_order = 2 ∷ 3 ∷ 4 ∷ 5 ∷ 6 ∷ 1 ∷ []

-- the file is these records, and no longer than the limit
pub record IsFile (limit : ℕ) (file : List ℕ) (rs : List Rec) : Type 0 where
  pub joins : file ≡ laid rs
  pub fine : AllByRecursion Fine rs
  pub order : kinds rs ≡ in_order
  pub last : last_kind rs ≡ 1
  pub short : length file ≤ limit

-- the file less its skippable records: at most n records, and of each that is skipped nothing
abbrev pub sifted : ℕ → List ℕ → List ℕ
sifted zero bs = []
sifted (suc n) bs = cond (length bs == 0) [] (cond (skippable (header_of bs).kind) [] (take (whole_of bs) bs) ++ sifted n (drop (whole_of bs) bs))

abbrev pub less : List ℕ → List ℕ
less file = sifted (length file) file
