use Rattle.std.proofs.Common.{take}
use Rattle.text.specs.Sheets.{Adds}
use Rattle.encode.specs.Encodings.{book_bytes}
use Rattle.encode.proofs.accounts.book_bytes.Given as goal

-- the first accounts stand
abbrev pub invariant-loop-account : goal.invariant-loop-account
invariant-loop-account l = Adds (book_bytes (take l.account-index l.book.accounts)) l.initial.sheet l.sheet
