use Rattle.std.proofs.Common.{Ok, Option, ◌≤◌, IfSome, subst, ◌≡◌, ℕ, length, get_or, None, sym, ◌∙◌, rules, arith}
use Rattle.std.proofs.lemmas.Grind.{common_steps}
use Rattle.std.proofs.lemmas.Result.{MatchResult-at_ok}
use Rattle.std.specs.Str.Parse.{ParsesUnsigned}
use Rattle.std.specs.Int.{IsInRange}
use Rattle.front.proofs.Numbers.{empty_none, long_none, stray_none, no_text_none, unread_none, if_none, is_kept, limited_number, limited_range}
use Rattle.front.proofs.number.number_up_to.Goals as goal
use Rattle.front.proofs.number.number_up_to.Goals.{In_ok-number}

pub returns-then-text-gt-MOST_DIGITS-clause-value : goal.returns-then-text-gt-MOST_DIGITS-clause-value
returns-then-text-gt-MOST_DIGITS-clause-value c = sym (long_none c.args.most c.ranges.most.fits c.args.text.now c.if-text-gt-MOST_DIGITS.true)

pub returns-in_err-first-clause-value : goal.returns-in_err-first-clause-value
returns-in_err-first-clause-value c =
    let none : c.from_residual.result ≡ None = search rules in
    let empty : length c.args.text.now ≡ 0 = search rules in
    none ∙ sym (empty_none c.args.most c.ranges.most.fits c.args.text.now empty)

pub returns-then-not-contains-clause-value : goal.returns-then-not-contains-clause-value
returns-then-not-contains-clause-value c = sym (stray_none c.args.most c.ranges.most.fits c.args.text.now (λ inside. grind (arith, common_steps)))

-- what the text is read as, and how it begins
parsed : (c : In_ok-number) → ParsesUnsigned {E = ℕ} 32 10 c.args.text.now (Ok c.in_ok-number.number)
parsed c =
    let text : c.in_ok-digits.digits.now ≡ c.args.text.now = (MatchResult-at_ok _ _ _ (is_kept _ _ c.in_ok-digits.ensures.value) c.from_utf8.ensures.cases).0 in
    subst (λ read. ParsesUnsigned 32 10 c.args.text.now read) (is_kept _ _ c.in_ok-number.ensures.value) (rw text at c.parse.ensures.value.0)

first : (c : In_ok-number) → IsInRange 49 57 (get_or c.args.text.now 0 0)
first c = grind (arith, common_steps)

pub returns-in_err-digits-clause-value : goal.returns-in_err-digits-clause-value
returns-in_err-digits-clause-value c =
    let none : c.from_residual-in_err-digits.result ≡ None = c.from_residual-in_err-digits.ensures in
    none ∙ sym (if_none _ _ _ _ c.in_err-digits.ensures.value c.from_utf8.ensures.cases (λ e wrong. no_text_none c.args.most c.ranges.most.fits c.args.text.now wrong.0))

pub returns-in_err-number-clause-value : goal.returns-in_err-number-clause-value
returns-in_err-number-clause-value c =
    let text : c.in_ok-digits.digits.now ≡ c.args.text.now = (MatchResult-at_ok _ _ _ (is_kept _ _ c.in_ok-digits.ensures.value) c.from_utf8.ensures.cases).0 in
    c.from_residual-in_err-number.ensures ∙ sym (unread_none c.args.most c.ranges.most.fits c.args.text.now _ _ c.in_err-number.ensures.value (rw text at c.parse.ensures.value.0))

pub returns-clause-value : goal.returns-clause-value
returns-clause-value c =
    let at = (goal.at.returns-clause-value c).In_ok-number in
    c.then_some.ensures ∙ limited_number c.args.most c.ranges.most.fits c.args.text.now ℕ c.in_ok-number.number (parsed at) (first at)

pub returns-clause-ranged : goal.returns-clause-ranged
returns-clause-ranged c =
    let at = (goal.at.returns-clause-ranged c).In_ok-number in
    subst (λ (n : Option ℕ). IfSome n (λ k. (1 ≤ k) × (k ≤ c.args.most))) (sym c.then_some.ensures)
    (limited_range c.args.most c.ranges.most.fits c.args.text.now ℕ c.in_ok-number.number (parsed at) (first at))
