-- A file less its skippable records.
use Rattle.std.proofs.Common.{◌≡◌, ℕ, zero, suc, ◌≤◌, Bool, true, false, cond, not, eqb, List, [], ◌∷◌, ◌++◌, map, length, sym, refl, ap, ◌∙◌, arith, length-append}
use Rattle.std.specs.List.{AllByRecursion}
use Rattle.std.proofs.lemmas.List.{take_at}
use Rattle.std.proofs.lemmas.Bool.{ne_eqb}
use Rattle.records.specs.declared.payloads.Places.{Places}
use Rattle.records.specs.Format.{record_of}
use Rattle.records.specs.Orders.{skippable}
use Rattle.records.specs.Walk.{whole_of}
use Rattle.records.specs.Files.{Rec, Fine, laid, kept, in_order, sifted, less}
use Rattle.records.specs.Layout.{parts, Found}
use Rattle.records.specs.Laws.{Sifts}
use Rattle.records.proofs.Headers.{kind_of, length_of_lem, rest_of, length_record}
use Rattle.records.proofs.Rows.{length-laid, paired, kept_paired}

by_kind : (b : Bool) (r : Rec) (rs : List Rec) → cond b [] (record_of r.kind r.payload) ++ laid (kept rs) ≡ laid (cond (not b) (r ∷ kept rs) (kept rs))
by_kind true r rs = refl
by_kind false r rs = refl

sift : (n : ℕ) (rs : List Rec) → AllByRecursion Fine rs → length rs ≤ n → sifted n (laid rs) ≡ laid (kept rs)
sift zero [] fine long = refl
sift zero (r ∷ rs) fine long = absurd (omega arith)
sift (suc n) [] fine long = refl
sift (suc n) (r ∷ rs) fine long =
    let one = record_of r.kind r.payload in
    let whole = length_record r.kind r.payload in
    let size = length_of_lem r.kind r.payload (laid rs) fine.0.short in
    let some : eqb (length (one ++ laid rs)) 0 ≡ false = ne_eqb (length (one ++ laid rs)) 0 (λ z. omega (arith, length-append one (laid rs))) in
    let kind = kind_of r.kind r.payload (laid rs) in
    let front = take_at one (laid rs) (whole_of (one ++ laid rs)) (omega arith) in
    let rest = ap (sifted n) (rest_of r.kind r.payload (laid rs) fine.0.short) ∙ sift n rs fine.1 (omega arith) in
    (λ i. cond (some i) [] (cond (skippable (kind i)) [] (front i) ++ rest i)) ∙ by_kind (skippable r.kind) r rs

pub sifts : Sifts
sifts rs fine = sift (length (laid rs)) rs fine (length-laid rs)

pub length-kept : (rs : List Rec) → length (laid (kept rs)) ≤ length (laid rs)
length-kept [] = omega arith
length-kept (r ∷ rs) = by (length-kept rs) (not (skippable r.kind))
  where
    by : length (laid (kept rs)) ≤ length (laid rs) → (b : Bool) → length (laid (cond b (r ∷ kept rs) (kept rs))) ≤ length (laid (r ∷ rs))
    by shorter true = omega (arith, length-append (record_of r.kind r.payload) (laid (kept rs)), length-append (record_of r.kind r.payload) (laid rs))
    by shorter false = omega (arith, length-append (record_of r.kind r.payload) (laid rs))

-- a file less its skippable records is the known records with the payloads that the walk found
pub less_found : (limit : ℕ) (file : List ℕ) (places : Places) (rs : List Rec) → Found limit file places rs → less file ≡ laid (paired in_order (map (λ p. p.1) (parts file places)))
less_found limit file places rs f =
    let is = f.is_file in
    ap less is.joins ∙ sifts rs is.fine ∙ ap laid (kept_paired rs (map (λ p. p.1) (parts file places)) is.order (ap (map (λ p. p.1)) (sym f.same_parts)))
