-- What was read of the record at the front of the bytes says which turn it is.
use Rattle.std.proofs.Common.{◌≡◌, ◌≢◌, ℕ, ◌+◌, ◌≤◌, List, length, take, drop, Ok, Err, cond, ◌==◌, sym, ap, ◌∙◌, arith, length-drop, Continue, Break, None, Some}
use Rattle.std.proofs.lemmas.Bool.{eq-eqb, ne_eqb, cond-true, cond-false}
use Rattle.std.proofs.lemmas.Bool.Decides.{nat_tests}
use Rattle.faults.specs.declared.record.RecordFault.TheVariants.{Check, Ending}
use Rattle.records.specs.declared.payloads.Places.{Places}
use Rattle.records.specs.declared.format.Header.{Header}
use Rattle.records.specs.declared.kinds.Kind.{Kind as KnownKind}
use Rattle.records.specs.declared.kinds.Kind.TheVariants.{End}
use Rattle.records.specs.declared.walking.Cursor.{Cursor}
use Rattle.records.specs.Format.{header_of, check_of}
use Rattle.records.specs.Kinds.{number_of}
use Rattle.records.specs.Orders.{answer, moved}
use Rattle.records.specs.Walk.{whole_of, payload_of, place_at, noted, behind, past, taken, placed, turn}
use Rattle.records.proofs.Ordering.{answered, ends_at_one}
use Rattle.records.proofs.Turns.{turn_stands}

-- the header and what lies behind it
pub record IsRead (bs rest : List ℕ) (h : Header) (check : ℕ) : Type 0 where
  pub header : (8 ≤ length bs) × (h ≡ header_of bs) × (rest ≡ drop 8 bs)
  pub room : h.length ≤ length rest
  pub sums : check ≡ check_of (take h.length rest)

module _ (c : Cursor) (bs rest : List ℕ) (h : Header) (check : ℕ) (read : IsRead bs rest h check) where
  sum_read : check ≡ check_of (payload_of bs)
  sum_read = read.sums ∙ (λ i. check_of (take (read.header.1 i).length (read.header.2 i)))

  check_read : h.check ≡ (header_of bs).check
  check_read = ap (λ (x : Header). x.check) read.header.1

  whole_read : whole_of bs ≤ length bs
  whole_read = omega (arith, read.header.0, read.room, ap (λ (x : Header). x.length) read.header.1, ap length read.header.2, length-drop 8 bs)

  pub check_turn : check ≢ h.check → Err (Check c.count) ≡ turn c bs
  check_turn other =
      let differs : check_of (payload_of bs) ≢ (header_of bs).check = λ e. other (sum_read ∙ e ∙ sym check_read) in
      let whole = whole_read in
      grind (arith, nat_tests)

  pub placed_turn : check ≡ h.check → turn c bs ≡ placed c bs (answer c.order.next h.kind)
  placed_turn same =
      turn_stands c bs (record { whole = whole_read; check = sym sum_read ∙ same ∙ check_read })
      ∙ ap (λ (x : Header). placed c bs (answer c.order.next x.kind)) (sym read.header.1)

  module _ (same : check ≡ h.check) where
    pub known_turn : (kind : KnownKind) → Ok (Some kind) ≡ answer c.order.next h.kind → turn c bs ≡ taken c bs (noted c.places h.kind (place_at c h.length))
    known_turn kind says =
        placed_turn same ∙ ap (placed c bs) (sym says)
        ∙ ap (λ (x : Header). taken c bs (noted c.places x.kind (place_at c x.length))) (sym read.header.1)

    -- the walk behind this record
    past_read : (n : Cursor) (places : Places) → n ≡ behind c h.length (moved c.order.next h.kind) places → n ≡ past c bs places
    past_read n places is = is ∙ ap (λ (x : Header). behind c x.length (moved c.order.next x.kind) places) read.header.1

    kind_read : h.kind ≡ (header_of bs).kind
    kind_read = ap (λ (x : Header). x.kind) read.header.1

    pub skipped_turn : (n : Cursor) → Ok None ≡ answer c.order.next h.kind → n ≡ behind c h.length (moved c.order.next h.kind) c.places → Ok (Continue n) ≡ turn c bs
    skipped_turn n says is = ap (λ (m : Cursor). Ok (Continue m)) (past_read n c.places is) ∙ ap (placed c bs) says ∙ sym (placed_turn same)

    module _ (kind : KnownKind) (says : Ok (Some kind) ≡ answer c.order.next h.kind) (places : Places) (note : places ≡ noted c.places (number_of kind) (place_at c h.length)) where
      taken_turn : turn c bs ≡ taken c bs places
      taken_turn = known_turn kind says ∙ ap (λ k. taken c bs (noted c.places k (place_at c h.length))) (answered _ _ kind says) ∙ ap (taken c bs) (sym note)

      pub more_turn : kind ≢ End → (n : Cursor) → n ≡ behind c h.length (moved c.order.next h.kind) places → Ok (Continue n) ≡ turn c bs
      more_turn other n is =
          ap (λ (m : Cursor). Ok (Continue m)) (past_read n places is)
          ∙ sym (cond-false ((header_of bs).kind == 1) _ _ (ne_eqb (header_of bs).kind 1 (λ e. other (ends_at_one kind (sym (answered _ _ kind says) ∙ kind_read ∙ e))))) ∙ sym taken_turn

      pub end_turn : kind ≡ End → turn c bs ≡ cond (length bs == whole_of bs) (Ok (Break places)) (Err (Ending (c.count + 1)))
      end_turn one = taken_turn ∙ cond-true ((header_of bs).kind == 1) _ _ (eq-eqb (header_of bs).kind 1 (sym kind_read ∙ answered _ _ kind says ∙ ap number_of one))

      long_read : length bs ≡ 8 + length rest
      long_read = omega (arith, read.header.0, ap length read.header.2, length-drop 8 bs)

      pub done_turn : kind ≡ End → length rest ≡ h.length → Ok (Break places) ≡ turn c bs
      done_turn one all =
          let whole : length bs ≡ whole_of bs = omega (arith, long_read, ap (λ (x : Header). x.length) read.header.1) in
          sym (end_turn one ∙ cond-true (length bs == whole_of bs) _ _ (eq-eqb (length bs) (whole_of bs) whole))

      pub ending_turn : kind ≡ End → length rest ≢ h.length → Err (Ending (c.count + 1)) ≡ turn c bs
      ending_turn one more =
          let part : length bs ≢ whole_of bs = λ e. more (omega (arith, long_read, e, ap (λ (x : Header). x.length) read.header.1)) in
          sym (end_turn one ∙ cond-false (length bs == whole_of bs) _ _ (ne_eqb (length bs) (whole_of bs) part))
