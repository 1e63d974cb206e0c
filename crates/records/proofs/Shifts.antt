-- A fault beside a skippable record that is put in.
use Rattle.std.proofs.Common.{◌≡◌, ℕ, ◌+◌, ◌<◌, ◌≤◌, ◌≢◌, ◌⊎◌, List, [], ◌∷◌, ◌++◌, length, Err, sym, ap, ◌∙◌, subst, inl, inr, ⊎_elim, append_assoc, append-nil, arith, length-append}
use Rattle.std.specs.List.{AllByRecursion}
use Rattle.std.proofs.ByRecursion.{All-append}
use Rattle.std.proofs.lemmas.Bool.{lt-ltb, le-ltb}
use Rattle.faults.specs.declared.record.RecordFault.{RecordFault}
use Rattle.faults.specs.declared.record.RecordFault.TheVariants.{Size, Cut, Check, Kind, Order, Ending}
use Rattle.records.specs.Format.{Bytes, header_of, record_of}
use Rattle.records.specs.Walk.{walked}
use Rattle.records.specs.Files.{Rec, Fine, laid, kinds}
use Rattle.records.specs.Stops.{Reason, FirstFault, WrongSize}
use Rattle.records.specs.Laws.{one_more, fault_shifted, SkipsChangeNothing}
use Rattle.records.proofs.Headers.{kind_of, length_record, record_bytes, laid_bytes}
use Rattle.records.proofs.Rows.{laid-append}
use Rattle.records.proofs.Meets.{Meet, even, ahead, behind, laid_meet, all_behind}
use Rattle.records.proofs.Turns.{stands_of}
use Rattle.records.proofs.Refusals.{refused, told}
use Rattle.records.proofs.Inserts.{kinds_without, taken_out, put_in}

one_more_lem : (n r m : ℕ) → n ≤ r → r + 1 ≡ m → one_more n r ≡ m
one_more_lem n r m high is = rw (le-ltb r n high) is

-- behind the place a fault names one record more
reason_shifts : (n : ℕ) (rs qs : List Rec) (bs : List ℕ) (f : RecordFault) → n ≤ length rs → length qs ≡ length rs + 1 → kinds qs ≡ kinds rs → Reason rs bs f → Reason qs bs (fault_shifted n f)
reason_shifts n rs qs bs Size far long same why = why
reason_shifts n rs qs bs (Cut r) far long same (is, why) = (one_more_lem n r (length qs) (omega arith) (omega arith), why)
reason_shifts n rs qs bs (Check r) far long same (is, why) = (one_more_lem n r (length qs) (omega arith) (omega arith), why)
reason_shifts n rs qs bs (Kind r) far long same (is, why) = (one_more_lem n r (length qs) (omega arith) (omega arith), why)
reason_shifts n rs qs bs (Order r) far long same (is, (stands, low, high, never)) =
    (one_more_lem n r (length qs) (omega arith) (omega arith), (stands, low, high, λ ks e. never ks (ap (λ l. l ++ ((header_of bs).kind ∷ ks)) (sym same) ∙ e)))
reason_shifts n rs qs bs (Ending r) far long same (inl (is, none)) = inl (one_more_lem n r (length qs) (omega arith) (omega arith), none)
reason_shifts n rs qs bs (Ending r) far long same (inr (is, (stands, one, last, longer))) =
    inr (one_more_lem n r (length qs + 1) (omega arith) (omega arith), (stands, one, ap (λ l. l ++ (1 ∷ [])) same ∙ last, longer))

stays : (n r : ℕ) → r < n → one_more n r ≡ r
stays n r low = rw (lt-ltb r n low)

-- before it a fault is of the record's kind, whatever lies behind the record
module _ (n : ℕ) (rs : List Rec) (g : Rec) (x y : List ℕ) (near : length rs < n) (fine : Fine g) (more : g.kind ≢ 1) where
  abbrev one : List ℕ
  one = record_of g.kind g.payload

  same_kind : (header_of (one ++ x)).kind ≡ (header_of (one ++ y)).kind
  same_kind = kind_of g.kind g.payload x ∙ sym (kind_of g.kind g.payload y)

  reason_stays : (f : RecordFault) → Reason rs (one ++ x) f → Reason rs (one ++ y) (fault_shifted n f)
  reason_stays Size why = why
  reason_stays (Cut r) (is, why) = let w = (stands_of g x fine).whole in absurd (omega (arith, why.1))
  reason_stays (Check r) (is, why) = absurd (why.1 (stands_of g x fine).check)
  reason_stays (Kind r) (is, why) = (stays n r (omega arith) ∙ is, (stands_of g y fine, subst (λ k. (k ≡ 0) ⊎ ((7 ≤ k) × (k ≤ 127))) same_kind why.1))
  reason_stays (Order r) (is, (stands, low, high, never)) =
      (stays n r (omega arith) ∙ is, (stands_of g y fine, subst (λ k. 1 ≤ k) same_kind low, subst (λ k. k ≤ 6) same_kind high, λ ks e. never ks (ap (λ k. kinds rs ++ (k ∷ ks)) same_kind ∙ e)))
  reason_stays (Ending r) (inl (is, none)) = absurd (omega (arith, ap length none, length-append one x, length_record g.kind g.payload))
  reason_stays (Ending r) (inr (is, (stands, end, last, longer))) = absurd (more (sym (kind_of g.kind g.payload x) ∙ end))

module _ (fs : List Rec) (s : Rec) (back : List ℕ) (ff : AllByRecursion Fine fs) (unended : AllByRecursion (λ f. f.kind ≢ 1) fs) (fine : Fine s) (high : 128 ≤ s.kind) (f : RecordFault) (first : FirstFault (laid fs ++ back) f) where
  abbrev put : List ℕ
  put = record_of s.kind s.payload

  fault_behind : (hs : List Rec) → first.before ≡ fs ++ hs → back ≡ laid hs ++ first.here → FirstFault (laid fs ++ (put ++ back)) (fault_shifted (length fs) f)
  fault_behind hs is goes =
      let here = first.here in
      let same = kinds_without fs s hs high ∙ ap kinds (sym is) in
      let long = ap length is ∙ length-append fs hs in
      let longer = length-append fs (s ∷ hs) in
      record {
        before = fs ++ s ∷ hs;
        here = here;
        joins = ap (λ l. laid fs ++ (put ++ l)) goes ∙ ap (λ l. laid fs ++ l) (sym (append_assoc put (laid hs) here)) ∙ sym (append_assoc (laid fs) (laid (s ∷ hs)) here) ∙ ap (λ l. l ++ here) (sym (laid-append fs (s ∷ hs)));
        fine = All-append Fine fs (s ∷ hs) ff (fine, all_behind Fine fs hs (subst (AllByRecursion Fine) is first.fine));
        unended = All-append (λ r. r.kind ≢ 1) fs (s ∷ hs) unended ((λ z. omega arith), all_behind (λ r. r.kind ≢ 1) fs hs (subst (AllByRecursion (λ r. r.kind ≢ 1)) is first.unended));
        order = (first.order.0, ap (λ l. l ++ first.order.0) same ∙ first.order.1);
        reason = reason_shifts (length fs) first.before (fs ++ s ∷ hs) here f (omega arith) (omega arith) same first.reason;
      }

  fault_before : (g : Rec) (hs : List Rec) → fs ≡ first.before ++ g ∷ hs → first.here ≡ laid (g ∷ hs) ++ back → FirstFault (laid fs ++ (put ++ back)) (fault_shifted (length fs) f)
  fault_before g hs is goes =
      let rs = first.before in
      let one-record = record_of g.kind g.payload in
      let assoc : (z : List ℕ) → laid (g ∷ hs) ++ z ≡ one-record ++ (laid hs ++ z) = λ z. append_assoc one-record (laid hs) z in
      let near : length rs < length fs = omega (arith, ap length is, length-append rs (g ∷ hs)) in
      let fine-g = (all_behind Fine rs (g ∷ hs) (subst (AllByRecursion Fine) is ff)).0 in
      let more = (all_behind (λ r. r.kind ≢ 1) rs (g ∷ hs) (subst (AllByRecursion (λ r. r.kind ≢ 1)) is unended)).0 in
      record {
        before = rs;
        here = one-record ++ (laid hs ++ (put ++ back));
        joins = ap (λ l. laid l ++ (put ++ back)) is ∙ ap (λ l. l ++ (put ++ back)) (laid-append rs (g ∷ hs)) ∙ append_assoc (laid rs) (laid (g ∷ hs)) (put ++ back) ∙ ap (λ l. laid rs ++ l) (assoc (put ++ back));
        fine = first.fine;
        unended = first.unended;
        order = first.order;
        reason = reason_stays (length fs) rs g (laid hs ++ back) (laid hs ++ (put ++ back)) near fine-g more f (subst (λ bs. Reason rs bs f) (goes ∙ assoc back) first.reason);
      }

  fault_meets : Meet first.before fs first.here back → FirstFault (laid fs ++ (put ++ back)) (fault_shifted (length fs) f)
  fault_meets (even is same) = fault_behind [] (is ∙ sym (append-nil fs)) (sym same)
  fault_meets (ahead g hs is goes) = fault_behind (g ∷ hs) is goes
  fault_meets (behind g hs is goes) = fault_before g hs is goes

  fault_shifts : FirstFault (laid fs ++ (put ++ back)) (fault_shifted (length fs) f)
  fault_shifts = fault_meets (laid_meet first.before fs first.here back first.fine ff (sym first.joins))

refused_shifts : (limit : ℕ) (fs : List Rec) (s : Rec) (back : List ℕ) → AllByRecursion Fine fs → AllByRecursion (λ f. f.kind ≢ 1) fs → Fine s → 128 ≤ s.kind → Bytes back → length (laid fs ++ (record_of s.kind s.payload ++ back)) ≤ limit → (f : RecordFault) → 0 < length (laid fs ++ back) → walked limit (laid fs ++ back) ≡ Err f → walked limit (laid fs ++ (record_of s.kind s.payload ++ back)) ≡ Err (fault_shifted (length fs) f)
refused_shifts limit fs s back ff unended fine high bytes small f some e =
    let put = record_of s.kind s.payload in
    let front = laid_bytes fs ff in
    let lengths : length (laid fs ++ back) ≤ length (laid fs ++ (put ++ back)) = omega (arith, length-append (laid fs) back, length-append (laid fs) (put ++ back), length-append put back) in
    let right : (file : List ℕ) → 0 < length file → length file ≤ limit → WrongSize limit file → ⊥ = λ file some fits wrong. ⊎_elim (λ none. omega arith) (λ long. omega arith) wrong in
    let all = All-append (λ b. b < 256) (laid fs) (put ++ back) front (All-append (λ b. b < 256) put back (record_bytes s fine) bytes) in
    ⊎_elim
    (λ size. absurd (right (laid fs ++ back) some (omega arith) size.1))
    (λ first. told limit (laid fs ++ (put ++ back)) (fault_shifted (length fs) f) all (inr (right (laid fs ++ (put ++ back)) (omega arith) small, fault_shifts fs s back ff unended fine high f first.1)))
    (refused limit (laid fs ++ back) f (All-append (λ b. b < 256) (laid fs) back front bytes) e)

pub skips_change_nothing : SkipsChangeNothing
skips_change_nothing limit fs s back ff unended fine high bytes small = record {
  taken_out = taken_out limit fs s unended ff fine high back bytes small;
  put_in = put_in limit fs s unended ff fine high back bytes small;
  refused = refused_shifts limit fs s back ff unended fine high bytes small;
}
