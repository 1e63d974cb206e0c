-- A walk is done exactly of the files that are records in order.
use Rattle.std.proofs.Common.{◌≡◌, ℕ, ◌+◌, ◌<◌, ◌≢◌, List, [], ◌∷◌, ◌++◌, length, drop, Ok, Err, Result, sym, ap, ◌∙◌, subst, ⊎_elim, append-nil, arith, Continue, Break, Some, Option}
use Rattle.std.specs.List.{AllByRecursion}
use Rattle.std.proofs.lemmas.List.{append_cancel_left}
use Rattle.std.proofs.lemmas.Bool.{cases_lt, eq-eqb, ne_eqb}
use Rattle.faults.specs.declared.record.RecordFault.{RecordFault}
use Rattle.records.specs.declared.kinds.Kind.{Kind as KnownKind}
use Rattle.records.specs.declared.payloads.Places.{Places}
use Rattle.records.specs.declared.walking.Cursor.{Cursor}
use Rattle.records.specs.Format.{Bytes, header_of, record_of}
use Rattle.records.specs.Orders.{following}
use Rattle.records.specs.Walk.{whole_of, place_of, noted, past, placed, turn, begin, walked}
use Rattle.records.specs.Files.{Rec, Fine, laid, kinds, last_kind, IsFile}
use Rattle.records.specs.Layout.{Found, Layout}
use Rattle.records.proofs.Headers.{kind_of, length_of_lem, length_record, laid_bytes}
use Rattle.records.proofs.Rows.{length-laid, kinds-append, kinds-known, last_append, last_unended, last_kept, some_last}
use Rattle.records.proofs.Meets.{laid-front, one_way}
use Rattle.records.proofs.Ordering.{kinds_from, is_end, first-awaited, answers_skipped, answers_known}
use Rattle.records.proofs.Turns.{starts, turn_at}
use Rattle.records.proofs.Trails.{Trail, stopped, trail}
use Rattle.records.proofs.Founds.{done_found}

-- at a record in order that is not the end record the walk goes on
pub goes_past : (c : Cursor) (g : Rec) (rest : List ℕ) (ks : List ℕ) → Fine g → g.kind ≢ 1 → kinds (g ∷ []) ++ ks ≡ kinds_from c.order.next → (m : Cursor) × (turn c (record_of g.kind g.payload ++ rest) ≡ Ok (Continue m))
goes_past c g rest ks fine more order =
    let e = c.order.next in
    let k = g.kind in
    let bs = record_of k g.payload ++ rest in
    let at = turn_at c g rest fine in
    ⊎_elim
    (λ low.
    let w = first-awaited e k ks (ap (λ l. l ++ ks) (sym (kinds-known g [] low)) ∙ order) in
    let m = past c bs (noted c.places (header_of bs).kind (place_of c bs)) in
    let known = answers_known e k w.0 (omega arith) (omega arith) in
    let goes : placed c bs (Ok (Some known.0)) ≡ Ok (Continue m) = rw (ne_eqb (header_of bs).kind 1 (λ z. more (sym (kind_of k g.payload rest) ∙ z))) in
    (m, at ∙ ap (placed c bs) known.1 ∙ goes))
    (λ high. (past c bs c.places, at ∙ ap (placed c bs) (answers_skipped e k high).0))
    (cases_lt k 128)

-- of several records in order the first is not the end record
not_yet : (e : Option KnownKind) (g h : Rec) (hs : List Rec) → kinds (g ∷ h ∷ hs) ≡ kinds_from e → last_kind (h ∷ hs) ≡ 1 → g.kind ≢ 1
not_yet e g h hs order end one =
    let w = first-awaited e g.kind (kinds (h ∷ hs)) (sym (kinds-known g (h ∷ hs) (omega arith)) ∙ order) in
    last_kept (h ∷ hs) end (w.1 ∙ ap (λ x. kinds_from (following x)) (is_end e (sym w.0 ∙ one)))

-- and at the last it is done
ends : (c : Cursor) (g : Rec) → Fine g → kinds (g ∷ []) ≡ kinds_from c.order.next → g.kind ≡ 1 → (places : Places) × (turn c (laid (g ∷ [])) ≡ Ok (Break places))
ends c g fine order one =
    let e = c.order.next in
    let k = g.kind in
    let bs = laid (g ∷ []) in
    let places = noted c.places (header_of bs).kind (place_of c bs) in
    let w = first-awaited e k [] (sym (kinds-known g [] (omega arith)) ∙ order) in
    let long = ap length (append-nil (record_of k g.payload)) ∙ length_record k g.payload in
    let whole : length bs ≡ whole_of bs = omega (arith, long, length_of_lem k g.payload [] fine.short) in
    let known = answers_known e k w.0 (omega arith) (omega arith) in
    let done : placed c bs (Ok (Some known.0)) ≡ Ok (Break places) = rw (eq-eqb (header_of bs).kind 1 (kind_of k g.payload [] ∙ one), eq-eqb (length bs) (whole_of bs) whole) in
    (places, turn_at c g [] fine ∙ ap (placed c bs) known.1 ∙ done)

stopped_done : (r : Result Places RecordFault) (places : Places) → stopped r ≡ Ok (Break places) → r ≡ Ok places
stopped_done (Ok q) places e = cc
stopped_done (Err f) places e = absurd (let z : ◌≡◌ {A = ℕ} 0 1 = cc in omega arith)

pub stopped_more : (r : Result Places RecordFault) (m : Cursor) → stopped r ≡ Ok (Continue m) → ⊥
stopped_more (Ok q) m e = let z : ◌≡◌ {A = ℕ} 0 1 = cc in omega arith
stopped_more (Err f) m e = let z : ◌≡◌ {A = ℕ} 0 1 = cc in omega arith

-- a walk over records in order that has passed some of them stops at the end record
stops_at_end : (file : List ℕ) (r : Result Places RecordFault) (t : Trail file begin r) (gs : List Rec) → AllByRecursion Fine gs → drop t.stop.at file ≡ laid gs → kinds gs ≡ kinds_from t.stop.order.next → last_kind (t.records ++ gs) ≡ 1 → (places : Places) × (r ≡ Ok places)
stops_at_end file r t [] fine is order last = absurd (last_unended t.records t.passes.unended (ap last_kind (sym (append-nil t.records)) ∙ last))
stops_at_end file r t (g ∷ []) fine is order last =
    let d = ends t.stop g fine.0 order (sym (last_append t.records g []) ∙ last) in
    (d.0, stopped_done r d.0 (sym t.stops ∙ ap (turn t.stop) is ∙ d.1))
stops_at_end file r t (g ∷ h ∷ hs) fine is order last =
    let more = not_yet t.stop.order.next g h hs order (sym (last_append t.records g (h ∷ hs)) ∙ last) in
    let m = goes_past t.stop g (laid (h ∷ hs)) (kinds (h ∷ hs)) fine.0 more (sym (kinds-append (g ∷ []) (h ∷ hs)) ∙ order) in
    absurd (stopped_more r m.0 (sym t.stops ∙ ap (turn t.stop) is ∙ m.1))

-- so a walk over records in order is done
done_over : (limit : ℕ) (file : List ℕ) (rs : List Rec) (r : Result Places RecordFault) → IsFile limit file rs → Trail file begin r → (places : Places) × (r ≡ Ok places)
done_over limit file rs r is t =
    let p = t.passes in
    let g = laid-front t.records rs (drop t.stop.at file) p.fine is.fine (sym p.joins ∙ is.joins) in
    let order = append_cancel_left (kinds t.records) (kinds g.0) (kinds_from t.stop.order.next) (sym (kinds-append t.records g.0) ∙ ap kinds (sym g.1) ∙ is.order ∙ sym p.order) in
    stops_at_end file r t g.0 g.3 g.2 order (ap last_kind (sym g.1) ∙ is.last)

-- a file is records in one way only
pub same_records : (limit : ℕ) (file : List ℕ) (rs qs : List Rec) → IsFile limit file rs → IsFile limit file qs → rs ≡ qs
same_records limit file rs qs r q = one_way rs qs r.fine q.fine (sym r.joins ∙ q.joins)

found_of_these : (limit : ℕ) (file : List ℕ) (places : Places) (rs : List Rec) → IsFile limit file rs → (qs : List Rec) × Found limit file places qs → Found limit file places rs
found_of_these limit file places rs is (qs, f) = subst (Found limit file places) (same_records limit file qs rs f.is_file is) f

-- records in order are walked, and found
pub file_done : (limit : ℕ) (file : List ℕ) (rs : List Rec) → IsFile limit file rs → (places : Places) × (walked limit file ≡ Ok places) × Found limit file places rs
file_done limit file rs is =
    let all = subst Bytes (sym is.joins) (laid_bytes rs is.fine) in
    let some : 0 < length file = omega (arith, some_last rs is.last, length-laid rs, ap length is.joins) in
    let e = done_over limit file rs (walked limit file) is (subst (Trail file begin) (starts limit file some is.short) (trail file all (length file + 1) begin (omega arith))) in
    (e.0, e.1, found_of_these limit file e.0 rs is (done_found limit file e.0 all e.1))

pub layout : (limit : ℕ) (file : List ℕ) (r : Result Places RecordFault) → r ≡ walked limit file → Bytes file → Layout limit file r
layout limit file r is all = record {
  sound = λ places e. done_found limit file places all (sym is ∙ e);
  complete = λ rs h. let d = file_done limit file rs h in (d.0, is ∙ d.1, d.2);
}
