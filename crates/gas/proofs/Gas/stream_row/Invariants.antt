use Rattle.std.proofs.Common.{◌≡◌, ℕ, ◌<◌, get_or}
use Rattle.lattice.specs.Grids.{cell_at}
use Rattle.gas.specs.Streaming.{arriving}
use Rattle.gas.proofs.Gas.stream_row.Given as goal

abbrev pub invariant-loop-column : goal.invariant-loop-column
invariant-loop-column g l =
    (c : ℕ) → c < l.column → get_or l.state-items c 0 ≡ arriving (g.Self.Gas.model l.self) l.grid.width l.grid.height l.from (cell_at l.grid.width c l.row)
