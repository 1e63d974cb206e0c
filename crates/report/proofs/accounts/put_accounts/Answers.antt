use Rattle.std.proofs.Common.{◌≡◌, ℕ, ◌+◌, ◌-◌, get_or, ap, arith}
use Rattle.book.specs.Accounts.{none}
use Rattle.report.specs.Lines.{account_line}
use Rattle.text.proofs.Sheets.{adds_start, adds_more, adds_same}
use Rattle.report.proofs.accounts.put_accounts.Goals as goal

pub loop-index-init : goal.loop-index-init
loop-index-init c = adds_start _ c.args.sheet.now

pub loop-index-preserved : goal.loop-index-preserved
loop-index-preserved c =
    let k = c.loop-index.index in
    let same : k ≡ k + 1 - 1 = omega arith in
    adds_more k _ c.loop-index.invariant (adds_same (ap (λ (i : ℕ). account_line (k + 1) (get_or c.args.book.now.accounts i none)) same) c.put_account.ensures)
