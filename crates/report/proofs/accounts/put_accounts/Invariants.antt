use Rattle.std.proofs.Common.{◌+◌}
use Rattle.book.specs.Accounts.{account_at}
use Rattle.text.specs.Sheets.{Adds}
use Rattle.text.specs.Texts.{texts}
use Rattle.report.specs.Lines.{account_line}
use Rattle.report.proofs.accounts.put_accounts.Given as goal

-- the lines of the first accounts stand
abbrev pub invariant-loop-index : goal.invariant-loop-index
invariant-loop-index l = Adds (texts l.index (λ k. account_line (k + 1) (account_at l.book.accounts (k + 1)))) l.initial.sheet l.sheet
