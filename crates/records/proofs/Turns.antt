-- One turn of the loop is one turn of `walked_from`.
use Rattle.std.proofs.Common.{◌≡◌, ℕ, zero, suc, ◌+◌, ◌-◌, ◌<◌, ◌≤◌, List, ◌++◌, length, take, drop, Ok, Err, Result, sym, ap, ◌∙◌, inl, inr, arith, length-append, Continue, Break}
use Rattle.std.proofs.lemmas.List.{take_rest}
use Rattle.std.proofs.lemmas.Bool.{eq-eqb, ne_eqb, lt-ltb, le-ltb}
use Rattle.std.proofs.lemmas.Bool.Decides.{nat_tests}
use Rattle.faults.specs.declared.record.RecordFault.{RecordFault}
use Rattle.faults.specs.declared.record.RecordFault.TheVariants.{Size}
use Rattle.records.specs.declared.payloads.Places.{Places}
use Rattle.records.specs.declared.walking.Cursor.{Cursor}
use Rattle.records.specs.Format.{header_of, check_of, record_of}
use Rattle.records.specs.Orders.{awaited, answer}
use Rattle.records.specs.Walk.{Turn, whole_of, payload_of, place_of, noted, past, placed, turn, goes_on, walked_from, begin, walked}
use Rattle.records.specs.Files.{Rec, Fine}
use Rattle.records.specs.Stops.{Stands, WrongSize}
use Rattle.records.proofs.Headers.{kind_of, length_of_lem, check_of_lem, length_record, payload_of_lem}

pub starts : (limit : ℕ) (file : List ℕ) → 0 < length file → length file ≤ limit → walked_from file (length file + 1) begin ≡ walked limit file
unfolding walked
starts limit file some fits = sym (rw (ne_eqb (length file) 0 (λ e. omega arith), le-ltb limit (length file) fits))

-- a done walk started, in a file that is not too long
pub started : (limit : ℕ) (file : List ℕ) (places : Places) → walked limit file ≡ Ok places → (walked_from file (length file + 1) begin ≡ Ok places) × (length file ≤ limit)
unfolding walked
started limit file places e = (grind (arith, nat_tests), grind (arith, nat_tests))

-- an empty file and one that is too long are not walked
pub wrong_size : (limit : ℕ) (file : List ℕ) → WrongSize limit file → walked limit file ≡ Err Size
unfolding walked
wrong_size limit file (inl none) = rw (eq-eqb (length file) 0 none)
wrong_size limit file (inr long) = rw (ne_eqb (length file) 0 (λ e. omega arith), lt-ltb limit (length file) long)

pub one_turn : (file : List ℕ) (c : Cursor) (r : Result Turn RecordFault) (n : ℕ) (answer : Result Places RecordFault) → length file - c.at < n → walked_from file n c ≡ answer → r ≡ turn c (take (length file - c.at) (drop c.at file)) → (m : ℕ) × (length file - c.at ≤ m) × (goes_on (walked_from file m) r ≡ answer)
one_turn file c r zero answer lt e is = absurd (omega arith)
one_turn file c r (suc m) answer lt e is = (m, omega arith, ap (goes_on (walked_from file m)) (is ∙ ap (turn c) (take_rest file c.at)) ∙ e)

-- a record that was written stands whole, and its check fits
pub stands_of : (r : Rec) (rest : List ℕ) → Fine r → Stands (record_of r.kind r.payload ++ rest)
stands_of r rest fine =
    let k = r.kind in
    let p = r.payload in
    record {
      whole = omega (arith, length-append (record_of k p) rest, length_record k p, length_of_lem k p rest fine.short);
      check = ap check_of (payload_of_lem k p rest fine.short) ∙ sym (check_of_lem k p rest);
    }

-- the turn at a record that stands is a matter of its kind alone
pub turn_stands : (c : Cursor) (bs : List ℕ) → Stands bs → turn c bs ≡ placed c bs (answer c.order.next (header_of bs).kind)
turn_stands c bs stands = let w = stands.whole in let h = stands.check in grind (arith, nat_tests)

pub turn_at : (c : Cursor) (r : Rec) (rest : List ℕ) → Fine r → turn c (record_of r.kind r.payload ++ rest) ≡ placed c (record_of r.kind r.payload ++ rest) (answer c.order.next r.kind)
turn_at c r rest fine =
    let bs = record_of r.kind r.payload ++ rest in
    turn_stands c bs (stands_of r rest fine) ∙ ap (λ n. placed c bs (answer c.order.next n)) (kind_of r.kind r.payload rest)

-- what a turn that went on tells
pub fits : (c m : Cursor) (bs : List ℕ) → turn c bs ≡ Ok (Continue m) → (whole_of bs ≤ length bs) × (check_of (payload_of bs) ≡ (header_of bs).check)
fits c m bs e = (grind (arith, nat_tests), grind (arith, nat_tests))

pub skipped : (c m : Cursor) (bs : List ℕ) → turn c bs ≡ Ok (Continue m) → 128 ≤ (header_of bs).kind → past c bs c.places ≡ m
skipped c m bs e h = grind (arith, nat_tests)

pub knew : (c m : Cursor) (bs : List ℕ) → turn c bs ≡ Ok (Continue m) → (header_of bs).kind < 128 → ((header_of bs).kind ≡ awaited c.order.next) × (1 < (header_of bs).kind) × ((header_of bs).kind ≤ 6) × (past c bs (noted c.places (header_of bs).kind (place_of c bs)) ≡ m)
knew c m bs e h = (grind (arith, nat_tests), grind (arith, nat_tests), grind (arith, nat_tests), grind (arith, nat_tests))

-- and one that ended
pub finished : (c : Cursor) (places : Places) (bs : List ℕ) → turn c bs ≡ Ok (Break places) → (whole_of bs ≡ length bs) × (check_of (payload_of bs) ≡ (header_of bs).check) × ((header_of bs).kind ≡ 1) × ((header_of bs).kind ≡ awaited c.order.next) × (noted c.places (header_of bs).kind (place_of c bs) ≡ places)
finished c places bs e = (grind (arith, nat_tests), grind (arith, nat_tests), grind (arith, nat_tests), grind (arith, nat_tests), grind (arith, nat_tests))
