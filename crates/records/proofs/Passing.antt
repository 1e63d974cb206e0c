-- Records that a walk passes: one after another, and what is noted of them.
use Rattle.std.proofs.Common.{◌≡◌, ℕ, ◌+◌, ◌<◌, ◌≤◌, ◌≢◌, List, [], ◌∷◌, ◌++◌, map, length, take, drop, Ok, sym, refl, ap, ◌∙◌, subst, ⊎_elim, append_assoc, append-nil, arith, length-append, length-drop, drop-drop, Continue}
use Rattle.std.specs.List.{AllByRecursion}
use Rattle.std.proofs.lemmas.List.{map-append}
use Rattle.std.proofs.ByRecursion.{All-append, All-drop}
use Rattle.std.proofs.lemmas.Bool.{cases_lt}
use Rattle.records.specs.declared.payloads.Place.{Place}
use Rattle.records.specs.declared.walking.Cursor.{Cursor}
use Rattle.records.specs.Format.{Bytes, header_of, record_of}
use Rattle.records.specs.Orders.{awaited, following}
use Rattle.records.specs.Walk.{whole_of, payload_of, place_of, noted, turn}
use Rattle.records.specs.Files.{Rec, rec, Fine, laid, kinds}
use Rattle.records.specs.Layout.{numbered_from, part, Inside}
use Rattle.records.proofs.Headers.{is_record, is_fine}
use Rattle.records.proofs.Rows.{laid-append, kinds-append, kinds_skipped, kinds-known, numbered-append, numbered_skipped, numbered-known}
use Rattle.records.proofs.Ordering.{kinds_from, filled, kinds_more, filled_more, answers_skipped, answers_known}
use Rattle.records.proofs.Turns.{fits, skipped, knew}

abbrev pub noted_at : Cursor → List Place
noted_at c = filled c.order.next c.places

-- from c the records rs lead to d
pub record Passed (file : List ℕ) (c d : Cursor) (rs : List Rec) : Type 0 where
  pub fine : AllByRecursion Fine rs
  pub unended : AllByRecursion (λ r. r.kind ≢ 1) rs
  pub joins : drop c.at file ≡ laid rs ++ drop d.at file
  pub counts : d.count ≡ c.count + length rs
  pub order : kinds rs ++ kinds_from d.order.next ≡ kinds_from c.order.next
  pub found : map (part file) (noted_at d) ≡ map (part file) (noted_at c) ++ numbered_from c.count rs
  pub inside : AllByRecursion (Inside file) (noted_at c) → AllByRecursion (Inside file) (noted_at d)

pub stays : (file : List ℕ) (c : Cursor) → Passed file c c []
stays file c = record { fine = tt; unended = tt; joins = refl; counts = omega arith; order = refl; found = sym (append-nil (map (part file) (noted_at c))); inside = λ h. h }

pub then_passed : (file : List ℕ) (c m d : Cursor) (qs rs : List Rec) → Passed file c m qs → Passed file m d rs → Passed file c d (qs ++ rs)
then_passed file c m d qs rs p q =
    let behind = p.found in
    record {
      fine = All-append Fine qs rs p.fine q.fine;
      unended = All-append (λ r. r.kind ≢ 1) qs rs p.unended q.unended;
      joins = p.joins ∙ ap (λ l. laid qs ++ l) q.joins ∙ sym (append_assoc (laid qs) (laid rs) (drop d.at file)) ∙ ap (λ l. l ++ drop d.at file) (sym (laid-append qs rs));
      counts = omega (arith, p.counts, q.counts, length-append qs rs);
      order = ap (λ l. l ++ kinds_from d.order.next) (kinds-append qs rs) ∙ append_assoc (kinds qs) (kinds rs) (kinds_from d.order.next) ∙ ap (λ l. kinds qs ++ l) q.order ∙ p.order;
      found = q.found ∙ (λ i. p.found i ++ numbered_from (p.counts i) rs) ∙ append_assoc (map (part file) (noted_at c)) (numbered_from c.count qs) (numbered_from (c.count + length qs) rs) ∙ ap (λ l. map (part file) (noted_at c) ++ l) (sym (numbered-append c.count qs rs));
      inside = λ h. q.inside (p.inside h);
    }

-- the place that is noted gives the payload
pub part_of : (file : List ℕ) (c : Cursor) → part file (place_of c (drop c.at file)) ≡ (c.count, payload_of (drop c.at file))
part_of file c = ap (λ l. (c.count, take (header_of (drop c.at file)).length l)) (sym (drop-drop 8 c.at file))

pub inside_of : (file : List ℕ) (c : Cursor) → whole_of (drop c.at file) ≤ length (drop c.at file) → Inside file (place_of c (drop c.at file))
inside_of file c whole = let l = length-drop c.at file in (omega arith, omega arith)

onward : (file : List ℕ) (c : Cursor) → drop (c.at + 8 + (header_of (drop c.at file)).length) file ≡ drop (whole_of (drop c.at file)) (drop c.at file)
onward file c =
    let bs = drop c.at file in
    let sum : c.at + 8 + (header_of bs).length ≡ c.at + whole_of bs = omega arith in
    ap (λ n. drop n file) sum ∙ sym (drop-drop (whole_of bs) c.at file)

-- a turn that goes on passes the record at the front
module _ (file : List ℕ) (all : Bytes file) (c m : Cursor) (goes : turn c (drop c.at file) ≡ Ok (Continue m)) where
  abbrev here : List ℕ
  here = drop c.at file

  abbrev pub front : Rec
  front = rec (header_of here).kind (payload_of here)

  joins_front : here ≡ laid (front ∷ []) ++ drop (c.at + 8 + (header_of here).length) file
  joins_front =
      let f = fits c m here goes in
      is_record here (All-drop (λ b. b < 256) c.at file all) f.0 f.1 ∙ (λ i. sym (append-nil (record_of front.kind front.payload)) i ++ sym (onward file c) i)

  fine_front : Fine front
  fine_front = is_fine here (All-drop (λ b. b < 256) c.at file all) (fits c m here goes).0

  passed_skipped : 128 ≤ front.kind → Passed file c m (front ∷ [])
  passed_skipped high =
      let e = c.order.next in
      let same = (answers_skipped e front.kind high).1 in
      let before = map (part file) (noted_at c) in
      subst (λ x. Passed file c x (front ∷ [])) (skipped c m here goes high) (record {
        fine = (fine_front, tt);
        unended = ((λ z. omega arith), tt);
        joins = joins_front;
        counts = omega arith;
        order = (λ i. kinds_skipped front [] high i ++ kinds_from (same i));
        found = ap (λ x. map (part file) (filled x c.places)) same ∙ sym (ap (λ l. before ++ l) (numbered_skipped c.count front [] high) ∙ append-nil before);
        inside = λ h. subst (λ x. AllByRecursion (Inside file) (filled x c.places)) (sym same) h;
      })

  passed_known : front.kind < 128 → Passed file c m (front ∷ [])
  passed_known low =
      let e = c.order.next in
      let w = knew c m here goes low in
      let x = place_of c here in
      let some : 1 ≤ awaited e = omega arith in
      let moves = (answers_known e front.kind w.0 (omega arith) w.2).2 in
      let notes = (λ i. filled (moves i) (noted c.places (w.0 i) x)) ∙ filled_more e c.places x some in
      let before = map (part file) (noted_at c) in
      subst (λ y. Passed file c y (front ∷ [])) w.3 (record {
        fine = (fine_front, tt);
        unended = ((λ z. omega arith), tt);
        joins = joins_front;
        counts = omega arith;
        order = (λ i. kinds-known front [] low i ++ kinds_from (moves i)) ∙ ap (λ k. k ∷ kinds_from (following e)) w.0 ∙ sym (kinds_more e some);
        found = ap (map (part file)) notes ∙ map-append (part file) (noted_at c) (x ∷ []) ∙ ap (λ y. before ++ (y ∷ [])) (part_of file c) ∙ sym (ap (λ l. before ++ l) (numbered-known c.count front [] low));
        inside = λ h. subst (AllByRecursion (Inside file)) (sym notes) (All-append (Inside file) (noted_at c) (x ∷ []) h (inside_of file c (fits c m here goes).0, tt));
      })

  pub passed : Passed file c m (front ∷ [])
  passed = ⊎_elim passed_known passed_skipped (cases_lt front.kind 128)

  pub advances : m.at ≡ c.at + whole_of here
  advances = ⊎_elim (λ low. let w = ap (λ x. x.at) (knew c m here goes low).3 in omega arith) (λ high. let w = ap (λ x. x.at) (skipped c m here goes high) in omega arith) (cases_lt front.kind 128)
