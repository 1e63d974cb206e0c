-- A skippable record put in or taken out.
use Rattle.std.proofs.Common.{◌≡◌, ℕ, ◌+◌, ◌<◌, ◌≤◌, Bool, true, false, cond, ◌≢◌, List, [], ◌∷◌, ◌++◌, map, length, Ok, sym, refl, ap, ◌∙◌, subst, append-nil, arith, length-append}
use Rattle.std.specs.List.{AllByRecursion}
use Rattle.std.proofs.lemmas.List.{map-append}
use Rattle.std.proofs.ByRecursion.{All-append}
use Rattle.std.proofs.lemmas.Bool.{lt-ltb, le-ltb}
use Rattle.records.specs.declared.payloads.Places.{Places}
use Rattle.records.specs.Format.{Bytes, record_of}
use Rattle.records.specs.Orders.{skippable}
use Rattle.records.specs.Walk.{walked}
use Rattle.records.specs.Files.{Rec, Fine, laid, kinds, last_kind}
use Rattle.records.specs.Layout.{numbered_from, numbered, parts, Found}
use Rattle.records.specs.Laws.{shifted}
use Rattle.records.proofs.Headers.{record_bytes, laid_bytes}
use Rattle.records.proofs.Rows.{laid-append, kinds-append, kinds_skipped, numbered-append, numbered_skipped, last_append, last_unended}
use Rattle.records.proofs.Meets.{laid-front}
use Rattle.records.proofs.Founds.{done_found}
use Rattle.records.proofs.Layouts.{file_done}

map-cond : {X Y : Type 0} (f : X → Y) (b : Bool) (x : X) (xs : List X) → map f (cond b xs (x ∷ xs)) ≡ cond b (map f xs) (f x ∷ map f xs)
map-cond f true x xs = refl
map-cond f false x xs = refl

-- the numbers before the place stay
before : (n m : ℕ) (fs : List Rec) → m + length fs ≤ n → map (shifted n) (numbered_from m fs) ≡ numbered_from m fs
before n m [] low = refl
before n m (f ∷ fs) low =
    let stays = before n (m + 1) fs (omega arith) in
    let same : shifted n (m, f.payload) ≡ (m, f.payload) = rw (lt-ltb m n (omega arith)) in
    map-cond (shifted n) (skippable f.kind) (m, f.payload) (numbered_from (m + 1) fs) ∙ (λ i. cond (skippable f.kind) (stays i) (same i ∷ stays i))

-- those behind it count one more
after : (n m : ℕ) (gs : List Rec) → n ≤ m → map (shifted n) (numbered_from m gs) ≡ numbered_from (m + 1) gs
after n m [] high = refl
after n m (g ∷ gs) high =
    let moves = after n (m + 1) gs (omega arith) in
    let more : shifted n (m, g.payload) ≡ (m + 1, g.payload) = rw (le-ltb m n high) in
    map-cond (shifted n) (skippable g.kind) (m, g.payload) (numbered_from (m + 1) gs) ∙ (λ i. cond (skippable g.kind) (moves i) (more i ∷ moves i))

pub numbers_shift : (fs : List Rec) (s : Rec) (gs : List Rec) → 128 ≤ s.kind → numbered (fs ++ s ∷ gs) ≡ map (shifted (length fs)) (numbered (fs ++ gs))
numbers_shift fs s gs high =
    let n = length fs in
    let zero-first : 0 + n ≡ n = omega arith in
    numbered-append 0 fs (s ∷ gs) ∙ ap (λ m. numbered_from 0 fs ++ numbered_from m (s ∷ gs)) zero-first ∙ ap (λ l. numbered_from 0 fs ++ l) (numbered_skipped n s gs high)
    ∙ sym (ap (map (shifted n)) (numbered-append 0 fs gs ∙ ap (λ m. numbered_from 0 fs ++ numbered_from m gs) zero-first) ∙ map-append (shifted n) (numbered_from 0 fs) (numbered_from n gs) ∙ (λ i. before n 0 fs (omega arith) i ++ after n n gs (omega arith) i))

pub kinds_without : (fs : List Rec) (s : Rec) (gs : List Rec) → 128 ≤ s.kind → kinds (fs ++ s ∷ gs) ≡ kinds (fs ++ gs)
kinds_without fs s gs high = kinds-append fs (s ∷ gs) ∙ ap (λ l. kinds fs ++ l) (kinds_skipped s gs high) ∙ sym (kinds-append fs gs)

module _ (limit : ℕ) (fs : List Rec) (s : Rec) (unended : AllByRecursion (λ f. f.kind ≢ 1) fs) (ff : AllByRecursion Fine fs) (fine : Fine s) (high : 128 ≤ s.kind) where
  last_with : (gs : List Rec) → last_kind (fs ++ gs) ≡ 1 → last_kind (fs ++ s ∷ gs) ≡ 1
  last_with [] e = absurd (last_unended fs unended (ap last_kind (sym (append-nil fs)) ∙ e))
  last_with (g ∷ gs) e = last_append fs s (g ∷ gs) ∙ sym (last_append fs g gs) ∙ e

  last_without : (gs : List Rec) → last_kind (fs ++ s ∷ gs) ≡ 1 → last_kind (fs ++ gs) ≡ 1
  last_without [] e = absurd (omega (arith, sym (last_append fs s []) ∙ e))
  last_without (g ∷ gs) e = last_append fs g gs ∙ sym (last_append fs s (g ∷ gs)) ∙ e

  module _ (back : List ℕ) (bytes : Bytes back) (small : length (laid fs ++ (record_of s.kind s.payload ++ back)) ≤ limit) where
    abbrev one : List ℕ
    one = record_of s.kind s.payload

    abbrev without : List ℕ
    without = laid fs ++ back

    abbrev with_it : List ℕ
    with_it = laid fs ++ (one ++ back)

    front_bytes : Bytes (laid fs)
    front_bytes = laid_bytes fs ff

    same_payloads : (places fewer : Places) (rs gs : List Rec) → Found limit with_it places rs → rs ≡ fs ++ s ∷ gs → Found limit without fewer (fs ++ gs) → parts with_it places ≡ map (shifted (length fs)) (parts without fewer)
    same_payloads places fewer rs gs p is q = p.same_parts ∙ ap numbered is ∙ numbers_shift fs s gs high ∙ ap (map (shifted (length fs))) (sym q.same_parts)

    pub taken_out : (places : Places) → walked limit with_it ≡ Ok places → (fewer : Places) × (walked limit without ≡ Ok fewer) × (parts with_it places ≡ map (shifted (length fs)) (parts without fewer))
    taken_out places e =
        let all = All-append (λ b. b < 256) (laid fs) (one ++ back) front_bytes (All-append (λ b. b < 256) one back (record_bytes s fine) bytes) in
        let d = done_found limit with_it places all e in
        let f = d.1.is_file in
        let g = laid-front fs d.0 (one ++ back) ff f.fine f.joins in
        let h = laid-front (s ∷ []) g.0 back (fine, tt) g.3 (ap (λ l. l ++ back) (append-nil one) ∙ g.2) in
        let is = g.1 ∙ ap (λ l. fs ++ l) h.1 in
        let small-without : length (laid fs ++ back) ≤ limit = omega (arith, length-append (laid fs) back, length-append (laid fs) (one ++ back), length-append one back) in
        let w = file_done limit without (fs ++ h.0) (record {
          joins = ap (λ l. laid fs ++ l) h.2 ∙ sym (laid-append fs h.0);
          fine = All-append Fine fs h.0 ff h.3;
          order = sym (kinds_without fs s h.0 high) ∙ ap kinds (sym is) ∙ f.order;
          last = last_without h.0 (ap last_kind (sym is) ∙ f.last);
          short = small-without;
        }) in
        (w.0, w.1, same_payloads places w.0 d.0 h.0 d.1 is w.2)

    pub put_in : (fewer : Places) → walked limit without ≡ Ok fewer → (places : Places) × (walked limit with_it ≡ Ok places) × (parts with_it places ≡ map (shifted (length fs)) (parts without fewer))
    put_in fewer e =
        let d = done_found limit without fewer (All-append (λ b. b < 256) (laid fs) back front_bytes bytes) e in
        let f = d.1.is_file in
        let g = laid-front fs d.0 back ff f.fine f.joins in
        let w = file_done limit with_it (fs ++ s ∷ g.0) (record {
          joins = ap (λ l. laid fs ++ (one ++ l)) g.2 ∙ sym (laid-append fs (s ∷ g.0));
          fine = All-append Fine fs (s ∷ g.0) ff (fine, g.3);
          order = kinds_without fs s g.0 high ∙ ap kinds (sym g.1) ∙ f.order;
          last = last_with g.0 (ap last_kind (sym g.1) ∙ f.last);
          short = small;
        }) in
        (w.0, w.1, same_payloads w.0 fewer (fs ++ s ∷ g.0) g.0 w.2 refl (subst (Found limit without fewer) g.1 d.1))
