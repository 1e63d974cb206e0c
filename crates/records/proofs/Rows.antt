-- Lists of records: joined, taken apart, numbered.
use Rattle.std.proofs.Common.{◌≡◌, ℕ, suc, ◌+◌, ◌^◌, ◌<◌, ◌≤◌, Bool, true, false, cond, not, ◌≢◌, List, [], ◌∷◌, ◌++◌, map, length, sym, refl, ap, ◌∙◌, ⊎_elim, append_assoc, arith, length-append}
use Rattle.std.specs.List.{AllByRecursion}
use Rattle.std.proofs.lemmas.List.{map-append}
use Rattle.std.proofs.lemmas.List.Elements.{filter-append}
use Rattle.std.proofs.lemmas.Bool.{le-leb, lt-leb, cases_lt}
use Rattle.records.specs.Format.{Bytes, record_of}
use Rattle.records.specs.Orders.{skippable}
use Rattle.records.specs.Files.{Rec, rec, Fine, laid, kept, kinds, last_kind, in_order}
use Rattle.records.specs.Layout.{numbered_from}
use Rattle.records.proofs.Headers.{length_record}

pub laid-append : (fs gs : List Rec) → laid (fs ++ gs) ≡ laid fs ++ laid gs
laid-append [] gs = refl
laid-append (f ∷ fs) gs = ap (λ l. record_of f.kind f.payload ++ l) (laid-append fs gs) ∙ sym (append_assoc (record_of f.kind f.payload) (laid fs) (laid gs))

pub length-laid : (rs : List Rec) → length rs ≤ length (laid rs)
length-laid [] = omega arith
length-laid (r ∷ rs) = omega (arith, length-append (record_of r.kind r.payload) (laid rs), length_record r.kind r.payload, length-laid rs)

pub kinds-append : (fs gs : List Rec) → kinds (fs ++ gs) ≡ kinds fs ++ kinds gs
kinds-append fs gs = ap (map (λ r. r.kind)) (filter-append _ fs gs) ∙ map-append (λ r. r.kind) (kept fs) (kept gs)

-- one record more in front
pub kinds_skipped : (r : Rec) (rs : List Rec) → 128 ≤ r.kind → kinds (r ∷ rs) ≡ kinds rs
kinds_skipped r rs h = rw (le-leb 128 r.kind h)

pub kinds-known : (r : Rec) (rs : List Rec) → r.kind < 128 → kinds (r ∷ rs) ≡ r.kind ∷ kinds rs
kinds-known r rs h = rw (lt-leb 128 r.kind h)

pub numbered_skipped : (n : ℕ) (r : Rec) (rs : List Rec) → 128 ≤ r.kind → numbered_from n (r ∷ rs) ≡ numbered_from (n + 1) rs
numbered_skipped n r rs h = rw (le-leb 128 r.kind h)

pub numbered-known : (n : ℕ) (r : Rec) (rs : List Rec) → r.kind < 128 → numbered_from n (r ∷ rs) ≡ (n, r.payload) ∷ numbered_from (n + 1) rs
numbered-known n r rs h = rw (lt-leb 128 r.kind h)

cond-append : {X : Type 0} (b : Bool) (x : X) (xs ys : List X) → cond b (xs ++ ys) (x ∷ (xs ++ ys)) ≡ cond b xs (x ∷ xs) ++ ys
cond-append true x xs ys = refl
cond-append false x xs ys = refl

pub numbered-append : (n : ℕ) (fs gs : List Rec) → numbered_from n (fs ++ gs) ≡ numbered_from n fs ++ numbered_from (n + length fs) gs
numbered-append n [] gs = let same : n ≡ n + 0 = omega arith in ap (λ m. numbered_from m gs) same
numbered-append n (f ∷ fs) gs =
    let same : n + 1 + length fs ≡ n + suc (length fs) = omega arith in
    ap (λ l. cond (skippable f.kind) l ((n, f.payload) ∷ l)) (numbered-append (n + 1) fs gs ∙ ap (λ m. numbered_from (n + 1) fs ++ numbered_from m gs) same)
    ∙ cond-append (skippable f.kind) (n, f.payload) (numbered_from (n + 1) fs) (numbered_from (n + suc (length fs)) gs)

pub last_append : (fs : List Rec) (g : Rec) (gs : List Rec) → last_kind (fs ++ g ∷ gs) ≡ last_kind (g ∷ gs)
last_append [] g gs = refl
last_append (f ∷ []) g gs = refl
last_append (f ∷ h ∷ fs) g gs = last_append (h ∷ fs) g gs

-- where no record is the end record, the last is not
pub last_unended : (fs : List Rec) → AllByRecursion (λ f. f.kind ≢ 1) fs → last_kind fs ≡ 1 → ⊥
last_unended [] all e = omega arith
last_unended (f ∷ []) all e = all.0 e
last_unended (f ∷ h ∷ fs) all e = last_unended (h ∷ fs) all.1 e

pub some_last : (rs : List Rec) → last_kind rs ≡ 1 → 0 < length rs
some_last [] e = absurd (omega arith)
some_last (r ∷ rs) e = omega arith

-- the end record is not skipped
pub last_kept : (rs : List Rec) → last_kind rs ≡ 1 → kinds rs ≡ [] → ⊥
last_kept [] e none = omega arith
last_kept (r ∷ []) e none = let one = sym (kinds-known r [] (omega arith)) ∙ none in omega (arith, ap length one)
last_kept (r ∷ s ∷ rs) e none =
    ⊎_elim
    (λ low. let one = sym (kinds-known r (s ∷ rs) low) ∙ none in omega (arith, ap length one))
    (λ high. last_kept (s ∷ rs) e (sym (kinds_skipped r (s ∷ rs) high) ∙ none))
    (cases_lt r.kind 128)

-- the payloads of the records that are kept
map_by : {X Y : Type 0} (f : X → Y) (b : Bool) (x : X) (xs : List X) → map f (cond (not b) (x ∷ xs) xs) ≡ cond b (map f xs) (f x ∷ map f xs)
map_by f true x xs = refl
map_by f false x xs = refl

map-over : {X Y : Type 0} (f : X → Y) (b : Bool) (x : X) (xs : List X) → map f (cond b xs (x ∷ xs)) ≡ cond b (map f xs) (f x ∷ map f xs)
map-over f true x xs = refl
map-over f false x xs = refl

pub numbered_payloads : (n : ℕ) (rs : List Rec) → map (λ p. p.1) (numbered_from n rs) ≡ map (λ r. r.payload) (kept rs)
numbered_payloads n [] = refl
numbered_payloads n (r ∷ rs) =
    map-over (λ p. p.1) (skippable r.kind) (n, r.payload) (numbered_from (n + 1) rs)
    ∙ ap (λ l. cond (skippable r.kind) l (r.payload ∷ l)) (numbered_payloads (n + 1) rs)
    ∙ sym (map_by (λ r. r.payload) (skippable r.kind) r (kept rs))

-- records of these kinds with these payloads
abbrev pub paired : List ℕ → List (List ℕ) → List Rec
paired [] ps = []
paired (k ∷ ks) [] = []
paired (k ∷ ks) (p ∷ ps) = rec k p ∷ paired ks ps

pub records_paired : (rs : List Rec) → rs ≡ paired (map (λ r. r.kind) rs) (map (λ r. r.payload) rs)
records_paired [] = refl
records_paired (r ∷ rs) = ap (λ l. r ∷ l) (records_paired rs)

-- so the records of a file that are kept are told by their payloads
pub kept_paired : (rs : List Rec) (ps : List (List ℕ)) → kinds rs ≡ in_order → map (λ p. p.1) (numbered_from 0 rs) ≡ ps → kept rs ≡ paired in_order ps
kept_paired rs ps order is = records_paired (kept rs) ∙ (λ i. paired (order i) ((sym (numbered_payloads 0 rs) ∙ is) i))

-- payloads fit their length field where the whole file is short
pub fine_laid : (rs : List Rec) → AllByRecursion (λ r. (r.kind < 256) × Bytes r.payload) rs → length (laid rs) < 2 ^ 24 → AllByRecursion Fine rs
fine_laid [] all short = tt
fine_laid (r ∷ rs) all short =
    let l = length-append (record_of r.kind r.payload) (laid rs) in
    let m = length_record r.kind r.payload in
    (record { one_byte = all.0.0; short = omega arith; bytes = all.0.1 }, fine_laid rs all.1 (omega arith))
