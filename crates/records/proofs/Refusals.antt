-- A refused walk tells the first fault in file order.
use Rattle.std.proofs.Common.{◌≡◌, ℕ, ◌+◌, ◌<◌, ◌≤◌, ◌⊎◌, List, ◌∷◌, ◌++◌, length, drop, Err, Result, sym, ap, ◌∙◌, subst, inl, inr, ⊎_elim, arith}
use Rattle.std.proofs.lemmas.List.{append_cancel_left, nil_from_length}
use Rattle.std.proofs.lemmas.Bool.{cases_lt, cases_eq}
use Rattle.std.proofs.lemmas.Bool.Decides.{nat_tests}
use Rattle.faults.specs.declared.record.RecordFault.{RecordFault}
use Rattle.faults.specs.declared.record.RecordFault.TheVariants.{Size, Cut, Check, Kind, Order, Ending}
use Rattle.records.specs.declared.payloads.Places.{Places}
use Rattle.records.specs.declared.walking.Cursor.{Cursor}
use Rattle.records.specs.Format.{Bytes, header_of}
use Rattle.records.specs.Orders.{awaited}
use Rattle.records.specs.Walk.{whole_of, turn, begin, walked}
use Rattle.records.specs.Files.{Rec, kinds, in_order}
use Rattle.records.specs.Stops.{Stands, CutShort, CheckWrong, NoKind, Reason, FirstFault, WrongSize, Refused, Refusal}
use Rattle.records.proofs.Ordering.{kinds_from, is_end, first-awaited}
use Rattle.records.proofs.Turns.{starts, wrong_size}
use Rattle.records.proofs.Passing.{Passed}
use Rattle.records.proofs.Trails.{Trail, trail}
use Rattle.records.proofs.Tells.{first_told}

-- what a turn that was refused tells
no_size : (c : Cursor) (bs : List ℕ) → turn c bs ≡ Err Size → ⊥
no_size c bs e = let z : ◌≡◌ {A = ℕ} 0 1 = grind (arith, nat_tests) in omega arith

cut : (c : Cursor) (bs : List ℕ) (n : ℕ) → turn c bs ≡ Err (Cut n) → (n ≡ c.count) × CutShort bs
cut c bs n e = (grind (arith, nat_tests), (grind (arith, nat_tests), grind (arith, nat_tests)))

check : (c : Cursor) (bs : List ℕ) (n : ℕ) → turn c bs ≡ Err (Check n) → (n ≡ c.count) × CheckWrong bs
check c bs n e = (grind (arith, nat_tests), (grind (arith, nat_tests), λ same. let z : ◌≡◌ {A = ℕ} 0 1 = grind (arith, nat_tests) in omega arith))

kind : (c : Cursor) (bs : List ℕ) (n : ℕ) → turn c bs ≡ Err (Kind n) → (n ≡ c.count) × NoKind bs
kind c bs n e =
    let k = (header_of bs).kind in
    let low : k < 128 = grind (arith, nat_tests) in
    let high : 1 ≤ k → 7 ≤ k = λ some. grind (arith, nat_tests) in
    (grind (arith, nat_tests), (record { whole = grind (arith, nat_tests); check = grind (arith, nat_tests) }, ⊎_elim (λ none. inl (omega arith)) (λ some. inr (high some, omega arith)) (cases_lt k 1)))

order : (c : Cursor) (bs : List ℕ) (n : ℕ) → turn c bs ≡ Err (Order n) → (n ≡ c.count) × Stands bs × (1 ≤ (header_of bs).kind) × ((header_of bs).kind ≤ 6) × ((header_of bs).kind ≡ awaited c.order.next → ⊥)
order c bs n e = (grind (arith, nat_tests), record { whole = grind (arith, nat_tests); check = grind (arith, nat_tests) }, grind (arith, nat_tests), grind (arith, nat_tests), λ same. let z : ◌≡◌ {A = ℕ} 0 1 = grind (arith, nat_tests) in omega arith)

unended : (c : Cursor) (bs : List ℕ) (n : ℕ) → turn c bs ≡ Err (Ending n) → length bs ≡ 0 → n ≡ c.count
unended c bs n e none = grind (arith, nat_tests)

behind_end : (c : Cursor) (bs : List ℕ) (n : ℕ) → turn c bs ≡ Err (Ending n) → (length bs ≡ 0 → ⊥) → (n ≡ c.count + 1) × Stands bs × ((header_of bs).kind ≡ 1) × ((header_of bs).kind ≡ awaited c.order.next) × (whole_of bs < length bs)
behind_end c bs n e some = (grind (arith, nat_tests), record { whole = grind (arith, nat_tests); check = grind (arith, nat_tests) }, grind (arith, nat_tests), grind (arith, nat_tests), grind (arith, nat_tests))

-- the reason, where the walk stopped
module _ (file : List ℕ) (d : Cursor) (rs : List Rec) (passes : Passed file begin d rs) where
  reason : (f : RecordFault) → turn d (drop d.at file) ≡ Err f → Reason rs (drop d.at file) f
  reason Size e = absurd (no_size d (drop d.at file) e)
  reason (Cut n) e = let w = cut d (drop d.at file) n e in (omega (arith, passes.counts), w.1)
  reason (Check n) e = let w = check d (drop d.at file) n e in (omega (arith, passes.counts), w.1)
  reason (Kind n) e = let w = kind d (drop d.at file) n e in (omega (arith, passes.counts), w.1)
  reason (Order n) e =
      let bs = drop d.at file in
      let w = order d bs n e in
      let never : (ks : List ℕ) → kinds rs ++ ((header_of bs).kind ∷ ks) ≡ in_order → ⊥ = λ ks is. w.4 (first-awaited d.order.next (header_of bs).kind ks (append_cancel_left (kinds rs) ((header_of bs).kind ∷ ks) (kinds_from d.order.next) (is ∙ sym passes.order))).0 in
      (omega (arith, passes.counts), (w.1, w.2, w.3, never))
  reason (Ending n) e =
      let bs = drop d.at file in
      ⊎_elim
      (λ none. inl (unended d bs n e none ∙ omega (arith, passes.counts), nil_from_length bs none))
      (λ some.
      let w = behind_end d bs n e some in
      let last = ap (λ x. kinds rs ++ kinds_from x) (sym (is_end d.order.next (sym w.3 ∙ w.2))) ∙ passes.order in
      inr (omega (arith, passes.counts), (w.1, w.2, last, w.4)))
      (cases_eq (length bs) 0)

first_fault : (file : List ℕ) (f : RecordFault) → Trail file begin (Err f) → FirstFault file f
first_fault file f t = record {
  before = t.records;
  here = drop t.stop.at file;
  joins = t.passes.joins;
  fine = t.passes.fine;
  unended = t.passes.unended;
  order = (kinds_from t.stop.order.next, t.passes.order);
  reason = reason file t.stop t.records t.passes f t.stops;
}

size_cases : (limit : ℕ) (file : List ℕ) → WrongSize limit file ⊎ ((0 < length file) × (length file ≤ limit))
size_cases limit file = ⊎_elim (λ none. inl (inl (omega arith))) (λ some. ⊎_elim (λ long. inl (inr long)) (λ fits. inr (some, fits)) (cases_lt limit (length file))) (cases_lt (length file) 1)

walked_trail : (limit : ℕ) (file : List ℕ) → Bytes file → (0 < length file) × (length file ≤ limit) → Trail file begin (walked limit file)
walked_trail limit file all right = subst (Trail file begin) (starts limit file right.0 right.1) (trail file all (length file + 1) begin (omega arith))

pub refused : (limit : ℕ) (file : List ℕ) (f : RecordFault) → Bytes file → walked limit file ≡ Err f → Refused limit file f
refused limit file f all e =
    ⊎_elim
    (λ wrong. inl ((let h = wrong_size limit file wrong in cc), wrong))
    (λ right.
    let fits : WrongSize limit file → ⊥ = λ wrong. ⊎_elim (λ none. omega (arith, right.0)) (λ long. omega (arith, right.1)) wrong in
    inr (fits, first_fault file f (subst (Trail file begin) e (walked_trail limit file all right))))
    (size_cases limit file)

pub told : (limit : ℕ) (file : List ℕ) (f : RecordFault) → Bytes file → Refused limit file f → walked limit file ≡ Err f
told limit file f all (inl (size, wrong)) = wrong_size limit file wrong ∙ ap (λ g. Err g) (sym size)
told limit file f all (inr (fits, first)) = ⊎_elim (λ wrong. absurd (fits wrong)) (λ right. first_told file f first (walked limit file) (walked_trail limit file all right)) (size_cases limit file)

pub refusal : (limit : ℕ) (file : List ℕ) (r : Result Places RecordFault) → r ≡ walked limit file → Bytes file → Refusal limit file r
refusal limit file r is all = record {
  sound = λ f e. refused limit file f all (sym is ∙ e);
  complete = λ f h. is ∙ told limit file f all h;
}
