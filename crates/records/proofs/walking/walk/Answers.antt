use Rattle.std.proofs.Common.{◌≡◌, ℕ, ◌+◌, ◌<◌, ◌≤◌, List, length, get_or, Ok, Err, Result, sym, ap, ◌∙◌, subst, inl, inr, ⊎_elim, arith, w8, Fits, rules, Continue, Break}
use Rattle.std.proofs.lemmas.Result.{err_from_is_err_and}
use Rattle.std.proofs.ByRecursion.{All-from_get_or}
use Rattle.std.proofs.lemmas.Bool.{eqb-true}
use Rattle.faults.specs.declared.record.RecordFault.{RecordFault}
use Rattle.faults.specs.declared.record.RecordFault.TheVariants.{Size}
use Rattle.records.specs.declared.payloads.Places.{Places}
use Rattle.records.specs.Layout.{Layout}
use Rattle.records.specs.Stops.{WrongSize, Refusal}
use Rattle.records.specs.Walk.{largest_file, walked, walked_from, Goes}
use Rattle.records.proofs.Turns.{starts, wrong_size, one_turn}
use Rattle.records.proofs.Layouts.{layout}
use Rattle.records.proofs.Refusals.{refusal}
use Rattle.records.proofs.walking.walk.Goals as goal

-- all clauses follow from the first
proved : (file : List ℕ) (r : Result Places RecordFault) → ((i : ℕ) → Fits w8 (get_or file i 0)) → r ≡ walked largest_file file → record { answer : r ≡ walked largest_file file; layout : Layout largest_file file r; refusal : Refusal largest_file file r }
proved file r bytes is =
    let all = All-from_get_or (λ b. b < 256) file 0 (λ i h. (bytes i).fits) in
    record { answer = is; layout = layout largest_file file r is all; refusal = refusal largest_file file r is all }

pub records-init : goal.records-init
records-init c =
    let file = c.args.file.now in
    let some : 0 < length file = search rules in
    let fits : length file ≤ largest_file = search rules in
    let begins = c.new-c.ensures in (
      omega (arith, ap (λ x. x.at) begins),
      omega (arith, ap (λ x. x.at) begins, ap (λ x. x.count) begins),
      fits,
      (length file + 1, omega arith, ap (walked_from file (length file + 1)) begins ∙ starts largest_file file some fits),
    )

pub returns-then-is_empty : goal.returns-then-is_empty
returns-then-is_empty c =
    let file = c.args.file.now in
    let wrong : WrongSize largest_file file = ⊎_elim (λ none. inl (eqb-true (length file) 0 (sym c.is_empty.ensures ∙ none))) (λ long. inr (omega (arith, long.1))) c.then-is_empty.either in
    proved file (Err Size) c.type_inv.file (sym (wrong_size largest_file file wrong))

pub returns-in_err-next : goal.returns-in_err-next
returns-in_err-next c =
    let file = c.args.file.now in
    let inv = c.records.invariant in
    let p = err_from_is_err_and c.from_residual.result c.from_residual.ensures.1 in
    let t = one_turn file c.records.c _ inv.3.0 (walked largest_file file) inv.3.1 inv.3.2 c.in_err-next.ensures.answers in
    proved file c.from_residual.result c.type_inv.file (rw (p.1, p.2) t.2)

pub records-preserved : goal.records-preserved
records-preserved c =
    let file = c.args.file.now in
    let inv = c.records.invariant in
    let goes = subst (Goes c.records.c _) c.in-Continue.is c.in_ok-next.ensures.goes in
    let t = one_turn file c.records.c (Ok (Continue c.in-Continue.next)) inv.3.0 (walked largest_file file) inv.3.1 inv.3.2 (let h = c.in_ok-next.ensures.answers in cc) in
    (omega arith, omega arith, inv.2, (t.0, omega arith, t.2))

pub returns-in-Break : goal.returns-in-Break
returns-in-Break c =
    let file = c.args.file.now in
    let inv = c.records.invariant in
    let t = one_turn file c.records.c (Ok (Break c.in-Break.places)) inv.3.0 (walked largest_file file) inv.3.1 inv.3.2 (let h = c.in_ok-next.ensures.answers in cc) in
    proved file (Ok c.in-Break.places) c.type_inv.file t.2
