use Rattle.std.proofs.Common.{◌≡◌, ◌+◌, ◌*◌, min, length}
use Rattle.step.specs.Settling.{Settled}
use Rattle.step.proofs.settling.settle_walls.Given as goal

-- after so many stretches
abbrev pub invariant-loop-stretch : goal.invariant-loop-stretch
invariant-loop-stretch g l =
    (length l.book.accounts ≡ 16) × Settled (g.G.Gas.model l.gas) l.map l.field l.initial.book.accounts l.book.accounts (min (l.stretch * 64) (length l.map))

-- after so many cells of one
abbrev pub invariant-loop-offset : goal.invariant-loop-offset
invariant-loop-offset g l =
    (length l.book.accounts ≡ 16) × Settled (g.G.Gas.model l.gas) l.map l.field l.fn.book.accounts l.book.accounts (l.start + l.offset)
