use Rattle.std.proofs.Common.{take}
use Rattle.text.specs.Sheets.{Adds}
use Rattle.text.proofs.sheet.Sheet.put_each.Given as goal

-- the first bytes stand
abbrev pub invariant-loop-byte : goal.invariant-loop-byte
invariant-loop-byte l = Adds (take l.byte-index l.bytes) l.initial.self l.self
