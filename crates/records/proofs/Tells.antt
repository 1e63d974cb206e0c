-- The walk tells the first fault, whichever it is.
use Rattle.std.proofs.Common.{◌≡◌, ℕ, ◌+◌, ◌≤◌, ◌≢◌, ◌⊎◌, List, [], ◌∷◌, ◌++◌, length, drop, Ok, Err, Result, sym, refl, ap, ◌∙◌, subst, inl, inr, append_assoc, arith, Option, Some}
use Rattle.std.specs.List.{AllByRecursion}
use Rattle.std.proofs.lemmas.List.{append_cancel_left}
use Rattle.std.proofs.lemmas.Bool.{eq-eqb, ne_eqb}
use Rattle.std.proofs.lemmas.Bool.Decides.{nat_tests}
use Rattle.faults.specs.declared.record.RecordFault.{RecordFault}
use Rattle.faults.specs.declared.record.RecordFault.TheVariants.{Size, Cut, Check, Kind, Order, Ending}
use Rattle.records.specs.declared.kinds.Kind.{Kind as KnownKind}
use Rattle.records.specs.declared.sequence.OrderFault.TheVariants.{Unknown, NotNext}
use Rattle.records.specs.declared.payloads.Places.{Places}
use Rattle.records.specs.declared.walking.Cursor.{Cursor}
use Rattle.records.specs.Format.{header_of, check_of, record_of}
use Rattle.records.specs.Orders.{awaited, following, answer}
use Rattle.records.specs.Walk.{whole_of, payload_of, placed, turn, begin}
use Rattle.records.specs.Files.{Rec, Fine, laid, kinds, in_order}
use Rattle.records.specs.Stops.{CutShort, CheckWrong, Reason, FirstFault}
use Rattle.records.proofs.Rows.{kinds-append}
use Rattle.records.proofs.Meets.{Meet, even, ahead, behind, laid_meet, all_behind}
use Rattle.records.proofs.Ordering.{kinds_from, kinds_more, first-awaited, answers_known}
use Rattle.records.proofs.Turns.{turn_stands}
use Rattle.records.proofs.Trails.{Trail, stopped}
use Rattle.records.proofs.Layouts.{goes_past, stopped_more}

cuts : (c : Cursor) (bs : List ℕ) → CutShort bs → turn c bs ≡ Err (Cut c.count)
cuts c bs short = let some = short.0 in let less = short.1 in grind (arith, nat_tests)

checks : (c : Cursor) (bs : List ℕ) → CheckWrong bs → turn c bs ≡ Err (Check c.count)
checks c bs wrong = let whole = wrong.0 in let no = ne_eqb (check_of (payload_of bs)) (header_of bs).check wrong.1 in grind (arith, nat_tests)

no_kind : (e : Option KnownKind) (k : ℕ) → (k ≡ 0) ⊎ ((7 ≤ k) × (k ≤ 127)) → answer e k ≡ Err Unknown
no_kind e k (inl none) = grind (arith, nat_tests)
no_kind e k (inr between) = let low = between.0 in let high = between.1 in grind (arith, nat_tests)

not_next : (e : Option KnownKind) (k : ℕ) → 1 ≤ k → k ≤ 6 → (k ≡ awaited e → ⊥) → answer e k ≡ Err NotNext
not_next e k low high other = let no = ne_eqb k (awaited e) other in grind (arith, nat_tests)

-- at the bytes that have the reason the walk stops with the fault
stops : (c : Cursor) (rs : List Rec) (bs : List ℕ) (f : RecordFault) → c.count ≡ length rs → kinds rs ++ kinds_from c.order.next ≡ in_order → Reason rs bs f → turn c bs ≡ Err f
stops c rs bs Size counts order why = absurd why
stops c rs bs (Cut n) counts order why = cuts c bs why.1 ∙ ap (λ m. Err (Cut m)) (counts ∙ sym why.0)
stops c rs bs (Check n) counts order why = checks c bs why.1 ∙ ap (λ m. Err (Check m)) (counts ∙ sym why.0)
stops c rs bs (Kind n) counts order why = turn_stands c bs why.1.0 ∙ ap (placed c bs) (no_kind c.order.next (header_of bs).kind why.1.1) ∙ ap (λ m. Err (Kind m)) (counts ∙ sym why.0)
stops c rs bs (Order n) counts order (is, (stands, low, high, never)) =
    let e = c.order.next in
    let k = (header_of bs).kind in
    let other : k ≡ awaited e → ⊥ = λ same. never (kinds_from (following e)) (ap (λ j. kinds rs ++ (j ∷ kinds_from (following e))) same ∙ ap (λ l. kinds rs ++ l) (sym (kinds_more e (omega arith))) ∙ order) in
    turn_stands c bs stands ∙ ap (placed c bs) (not_next e k low high other) ∙ ap (λ m. Err (Order m)) (counts ∙ sym is)
stops c rs bs (Ending n) counts order (inl (is, none)) = ap (turn c) none ∙ ap (λ m. Err (Ending m)) (counts ∙ sym is)
stops c rs bs (Ending n) counts order (inr (is, (stands, one, last, longer))) =
    let e = c.order.next in
    let k = (header_of bs).kind in
    let w = first-awaited e 1 [] (append_cancel_left (kinds rs) (1 ∷ []) (kinds_from e) (last ∙ sym order)) in
    let known = answers_known e k (one ∙ w.0) (omega arith) (omega arith) in
    let goes : placed c bs (Ok (Some known.0)) ≡ Err (Ending (c.count + 1)) = rw (eq-eqb k 1 one, ne_eqb (length bs) (whole_of bs) (λ z. omega arith)) in
    let count : c.count + 1 ≡ n = omega arith in
    turn_stands c bs stands ∙ ap (placed c bs) known.1 ∙ goes ∙ ap (λ m. Err (Ending m)) count

-- no reason holds of bytes that begin with a record in order
no_reason : (c : Cursor) (rs : List Rec) (g : Rec) (rest : List ℕ) (ks : List ℕ) (f : RecordFault) → Fine g → g.kind ≢ 1 → c.count ≡ length rs → kinds rs ++ kinds_from c.order.next ≡ in_order → kinds (g ∷ []) ++ ks ≡ kinds_from c.order.next → Reason rs (record_of g.kind g.payload ++ rest) f → ⊥
no_reason c rs g rest ks f fine more counts order goes why =
    let stop = stops c rs (record_of g.kind g.payload ++ rest) f counts order why in
    let m = goes_past c g rest ks fine more goes in
    let z : ◌≡◌ {A = ℕ} 0 1 = cc (stop, m.1) in
    omega arith

-- the kinds that have yet to come behind some of them
yet_to_come : (e : Option KnownKind) (ls ks : List ℕ) → ls ++ ks ≡ kinds_from e → (d : Option KnownKind) × (ks ≡ kinds_from d)
yet_to_come e [] ks is = (e, is)
yet_to_come e (l ∷ ls) ks is = yet_to_come (following e) ls ks (first-awaited e l (ls ++ ks) is).1

-- kinds of a record and of what follows it
kinds-first : (rs : List Rec) (g : Rec) (hs : List Rec) (ks : List ℕ) → kinds (rs ++ g ∷ hs) ++ ks ≡ kinds rs ++ (kinds (g ∷ []) ++ (kinds hs ++ ks))
kinds-first rs g hs ks =
    ap (λ l. l ++ ks) (kinds-append rs (g ∷ hs)) ∙ append_assoc (kinds rs) (kinds (g ∷ hs)) ks
    ∙ ap (λ l. kinds rs ++ l) (ap (λ l. l ++ ks) (kinds-append (g ∷ []) hs) ∙ append_assoc (kinds (g ∷ [])) (kinds hs) ks)

stopped_err : (r : Result Places RecordFault) (f : RecordFault) → stopped r ≡ Err f → r ≡ Err f
stopped_err (Ok q) f e = absurd (let z : ◌≡◌ {A = ℕ} 0 1 = cc in omega arith)
stopped_err (Err g) f e = cc

module _ (file : List ℕ) (f : RecordFault) (first : FirstFault file f) (r : Result Places RecordFault) (t : Trail file begin r) where
  abbrev there : List ℕ
  there = drop t.stop.at file

  by_meet : Meet first.before t.records first.here there → r ≡ Err f
  by_meet (even same is) =
      let p = t.passes in
      let why = subst (λ rs. Reason rs there f) same (subst (λ bs. Reason first.before bs f) is first.reason) in
      stopped_err r f (sym t.stops ∙ stops t.stop t.records there f (p.counts ∙ omega arith) p.order why)
  by_meet (ahead g hs is goes) =
      let ks = first.order.0 in
      let e = t.stop.order.next in
      let order = append_cancel_left (kinds t.records) (kinds (g ∷ []) ++ (kinds hs ++ ks)) (kinds_from e) (sym (kinds-first t.records g hs ks) ∙ ap (λ rs. kinds rs ++ ks) (sym is) ∙ first.order.1 ∙ sym t.passes.order) in
      let fine = (all_behind Fine t.records (g ∷ hs) (subst (AllByRecursion Fine) is first.fine)).0 in
      let more = (all_behind (λ r. r.kind ≢ 1) t.records (g ∷ hs) (subst (AllByRecursion (λ r. r.kind ≢ 1)) is first.unended)).0 in
      let m = goes_past t.stop g (laid hs ++ first.here) (kinds hs ++ ks) fine more order in
      absurd (stopped_more r m.0 (sym t.stops ∙ ap (turn t.stop) (goes ∙ append_assoc (record_of g.kind g.payload) (laid hs) first.here) ∙ m.1))
  by_meet (behind g hs is goes) =
      let p = t.passes in
      let ks = kinds (g ∷ []) ++ (kinds hs ++ kinds_from t.stop.order.next) in
      let whole : kinds first.before ++ ks ≡ in_order = sym (kinds-first first.before g hs (kinds_from t.stop.order.next)) ∙ ap (λ rs. kinds rs ++ kinds_from t.stop.order.next) (sym is) ∙ p.order in
      let d = yet_to_come begin.order.next (kinds first.before) ks whole in
      let c : Cursor = record { at = 0; count = length first.before; order = record { next = d.0 }; places = begin.places } in
      let fine = (all_behind Fine first.before (g ∷ hs) (subst (AllByRecursion Fine) is p.fine)).0 in
      let more = (all_behind (λ r. r.kind ≢ 1) first.before (g ∷ hs) (subst (AllByRecursion (λ r. r.kind ≢ 1)) is p.unended)).0 in
      let why = subst (λ bs. Reason first.before bs f) (goes ∙ append_assoc (record_of g.kind g.payload) (laid hs) there) first.reason in
      absurd (no_reason c first.before g (laid hs ++ there) (kinds hs ++ kinds_from t.stop.order.next) f fine more refl (ap (λ l. kinds first.before ++ l) (sym d.1) ∙ whole) d.1 why)

  pub first_told : r ≡ Err f
  first_told = by_meet (laid_meet first.before t.records first.here there first.fine t.passes.fine (sym first.joins ∙ t.passes.joins))
