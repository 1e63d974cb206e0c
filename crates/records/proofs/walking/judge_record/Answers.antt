use Rattle.std.proofs.Common.{◌≡◌, ◌<◌, ◌≤◌, length, drop, Ok, Err, Some, Option, sym, ap, ◌∙◌, rules}
use Rattle.records.specs.declared.sequence.OrderFault.{OrderFault}
use Rattle.records.specs.declared.kinds.Kind.{Kind as KnownKind}
use Rattle.std.proofs.lemmas.Option.{MatchOption-at_some}
use Rattle.records.specs.Format.{header_of}
use Rattle.records.specs.Orders.{answer}
use Rattle.records.specs.Walk.{behind, placed}
use Rattle.records.proofs.Judged.{IsRead, check_turn, placed_turn, skipped_turn, more_turn, done_turn, ending_turn}
use Rattle.records.proofs.walking.judge_record.Goals as goal
use Rattle.records.proofs.walking.judge_record.Goals.{After-check_of, In-Ok-Some}

-- what the header and the check tell
read : (c : After-check_of) → IsRead c.args.bytes.now c.in_ok-header.rest.now c.in_ok-header.header c.check_of.result
read c =
    let bytes = c.args.bytes.now in
    record {
      header = MatchOption-at_some (length bytes < 8) (λ p. (8 ≤ length bytes) × (p.0 ≡ header_of bytes) × (p.1.now ≡ drop 8 bytes)) _ c.in_ok-header.ensures.ok_part c.read_header.ensures;
      room = c.if-rest-length.false;
      sums = c.check_of.ensures;
    }

known : (c : In-Ok-Some) → Ok (Some c.in-Ok-Some.kind) ≡ answer c.args.c.order.next c.in_ok-header.header.kind
known c = cc

pub returns-then-check_of-header-clause-answers : goal.returns-then-check_of-header-clause-answers
returns-then-check_of-header-clause-answers c =
    let at = (goal.at.returns-then-check_of-header-clause-answers c).After-check_of in check_turn _ _ _ _ _ (read at) c.if-check_of-header.true

pub returns-in-Err-Unknown-clause-answers : goal.returns-in-Err-Unknown-clause-answers
returns-in-Err-Unknown-clause-answers c =
    let at = (goal.at.returns-in-Err-Unknown-clause-answers c).After-check_of in
    ap (λ (f : OrderFault). placed c.args.c c.args.bytes.now (Err f)) (sym c.in-Err-Unknown.field-0-is)
    ∙ ap (placed c.args.c c.args.bytes.now) c.in-Err-Unknown.ensures.says ∙ sym (placed_turn _ _ _ _ _ (read at) c.if-check_of-header.false)

pub returns-in-Err-NotNext-clause-answers : goal.returns-in-Err-NotNext-clause-answers
returns-in-Err-NotNext-clause-answers c =
    let at = (goal.at.returns-in-Err-NotNext-clause-answers c).After-check_of in
    ap (λ (f : OrderFault). placed c.args.c c.args.bytes.now (Err f)) (sym c.in-Err-NotNext.field-0-is)
    ∙ ap (placed c.args.c c.args.bytes.now) c.in-Err-NotNext.ensures.says ∙ sym (placed_turn _ _ _ _ _ (read at) c.if-check_of-header.false)

pub returns-in-Ok-None-clause-answers : goal.returns-in-Ok-None-clause-answers
returns-in-Ok-None-clause-answers c =
    let at = (goal.at.returns-in-Ok-None-clause-answers c).After-check_of in
    skipped_turn _ _ _ _ _ (read at) c.if-check_of-header.false _
    (ap (λ (s : Option KnownKind). Ok s) (sym c.in-Ok-None.field-0-is) ∙ c.in-Ok-None.ensures.says)
    (c.past.ensures ∙ ap (λ (n : Option KnownKind). behind c.args.c c.in_ok-header.header.length n c.args.c.places) c.in-Ok-None.ensures.moves)

pub returns-then-ne-clause-answers : goal.returns-then-ne-clause-answers
returns-then-ne-clause-answers c =
    let at = (goal.at.returns-then-ne-clause-answers c).After-check_of in
    more_turn _ _ _ _ _ (read at) c.if-check_of-header.false c.in-Ok-Some.kind (known (goal.at.returns-then-ne-clause-answers c).In-Ok-Some) _ c.noting-places.ensures (search rules) _
    (c.past-then-ne.ensures ∙ ap (λ (n : Option KnownKind). behind c.args.c c.in_ok-header.header.length n c.noting-places.result) c.in-Ok-Some.ensures.moves)

pub returns-then-rest-length-2-clause-answers : goal.returns-then-rest-length-2-clause-answers
returns-then-rest-length-2-clause-answers c =
    let at = (goal.at.returns-then-rest-length-2-clause-answers c).After-check_of in
    done_turn _ _ _ _ _ (read at) c.if-check_of-header.false c.in-Ok-Some.kind (known (goal.at.returns-then-rest-length-2-clause-answers c).In-Ok-Some) _ c.noting-places.ensures (search rules) c.if-rest-length-2.true

pub returns-else-rest-length-2-clause-answers : goal.returns-else-rest-length-2-clause-answers
returns-else-rest-length-2-clause-answers c =
    let at = (goal.at.returns-else-rest-length-2-clause-answers c).After-check_of in
    ending_turn _ _ _ _ _ (read at) c.if-check_of-header.false c.in-Ok-Some.kind (known (goal.at.returns-else-rest-length-2-clause-answers c).In-Ok-Some) _ c.noting-places.ensures (search rules) c.if-rest-length-2.false
