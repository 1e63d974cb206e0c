-- A done walk found records in order.
use Rattle.std.proofs.Common.{◌≡◌, ℕ, ◌+◌, ◌<◌, ◌≤◌, List, [], ◌∷◌, ◌++◌, map, length, drop, Ok, sym, ap, ◌∙◌, subst, arith, Some}
use Rattle.std.specs.List.{AllByRecursion}
use Rattle.std.proofs.lemmas.List.{map-append, drop_all}
use Rattle.std.proofs.ByRecursion.{All-append, All-drop}
use Rattle.records.specs.declared.kinds.Kind.TheVariants.{End}
use Rattle.records.specs.declared.payloads.Places.{Places}
use Rattle.records.specs.Format.{Bytes, record_of}
use Rattle.records.specs.Walk.{whole_of, payload_of, place_of, noted, begin, walked}
use Rattle.records.specs.Files.{Rec, rec, Fine, laid, kinds}
use Rattle.records.specs.Layout.{numbered_from, listed, part, Inside, Found}
use Rattle.records.proofs.Headers.{is_record, is_fine}
use Rattle.records.proofs.Rows.{laid-append, kinds-append, numbered-append, last_append}
use Rattle.records.proofs.Ordering.{kinds_from, filled, filled_more, is_end}
use Rattle.records.proofs.Turns.{started, finished}
use Rattle.records.proofs.Passing.{part_of, inside_of}
use Rattle.records.proofs.Trails.{Trail, trail}

-- a done walk found records in order
module _ (limit : ℕ) (file : List ℕ) (places : Places) (all : Bytes file) (short : length file ≤ limit) (t : Trail file begin (Ok places)) where
  abbrev here : List ℕ
  here = drop t.stop.at file

  abbrev last : Rec
  last = rec 1 (payload_of here)

  last_laid : here ≡ laid (last ∷ [])
  last_laid =
      let f = finished t.stop places here t.stops in
      is_record here (All-drop (λ b. b < 256) t.stop.at file all) (omega arith) f.1
      ∙ (λ i. record_of (f.2 i) (payload_of here) ++ drop_all (whole_of here) here (omega arith) i)

  fine_last : Fine last
  fine_last =
      let f = finished t.stop places here t.stops in
      subst (λ k. Fine (rec k (payload_of here))) f.2 (is_fine here (All-drop (λ b. b < 256) t.stop.at file all) (omega arith))

  at_end : t.stop.order.next ≡ Some End
  at_end = let f = finished t.stop places here t.stops in is_end t.stop.order.next (sym f.3 ∙ f.2)

  pub found_by : Found limit file places (t.records ++ last ∷ [])
  found_by =
      let rs = t.records in
      let p = t.passes in
      let f = finished t.stop places here t.stops in
      let x = place_of t.stop here in
      let seen : filled t.stop.order.next t.stop.places ≡ filled (Some End) t.stop.places = ap (λ e. filled e t.stop.places) at_end in
      let notes : listed places ≡ filled (Some End) t.stop.places ++ (x ∷ []) = ap listed (sym f.4 ∙ ap (λ k. noted t.stop.places k x) f.2) ∙ filled_more (Some End) t.stop.places x (omega arith) in
      record {
        is_file = record {
          joins = p.joins ∙ ap (λ l. laid rs ++ l) last_laid ∙ sym (laid-append rs (last ∷ []));
          fine = All-append Fine rs (last ∷ []) p.fine (fine_last, tt);
          order = kinds-append rs (last ∷ []) ∙ ap (λ e. kinds rs ++ kinds_from e) (sym at_end) ∙ p.order;
          last = last_append rs last [];
          short = short;
        };
        same_parts = ap (map (part file)) notes ∙ map-append (part file) (filled (Some End) t.stop.places) (x ∷ [])
            ∙ (λ i. (ap (map (part file)) (sym seen) ∙ p.found) i ++ (part_of file t.stop i ∷ []))
            ∙ ap (λ n. numbered_from 0 rs ++ ((n, payload_of here) ∷ [])) p.counts
            ∙ sym (numbered-append 0 rs (last ∷ []));
        inside = subst (AllByRecursion (Inside file)) (sym notes) (All-append (Inside file) (filled (Some End) t.stop.places) (x ∷ []) (subst (AllByRecursion (Inside file)) seen (p.inside tt)) (inside_of file t.stop (omega arith), tt));
      }

pub done_found : (limit : ℕ) (file : List ℕ) (places : Places) → Bytes file → walked limit file ≡ Ok places → (rs : List Rec) × Found limit file places rs
done_found limit file places all is =
    let s = started limit file places is in
    let t = subst (Trail file begin) s.0 (trail file all (length file + 1) begin (omega arith)) in
    (t.records ++ rec 1 (payload_of (drop t.stop.at file)) ∷ [], found_by limit file places all s.1 t)
