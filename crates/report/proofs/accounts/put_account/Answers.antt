use Rattle.std.proofs.Common.{◌≡◌, sym, ◌∙◌, arith}
use Rattle.std.proofs.lemmas.Bool.{cond-true, cond-false}
use Rattle.report.specs.Lines.{is_none}
use Rattle.text.proofs.Sheets.{adds_none, adds_then, adds_same}
use Rattle.report.proofs.accounts.put_account.Goals as goal

pub returns-then-eq : goal.returns-then-eq
returns-then-eq c =
    let nothing : is_none c.args.account ≡ c.eq.result = grind (arith, c.eq.ensures, c.default.ensures) in
    adds_same (sym (cond-true (is_none c.args.account) _ _ (nothing ∙ c.if-eq.true))) (adds_none c.args.sheet.now)

pub returns : goal.returns
returns c =
    let nothing : is_none c.args.account ≡ c.eq.result = grind (arith, c.eq.ensures, c.default.ensures) in
    adds_same (sym (cond-false (is_none c.args.account) _ _ (nothing ∙ c.if-eq.false))) (adds_then c.put_name.ensures c.put_vector.ensures)
