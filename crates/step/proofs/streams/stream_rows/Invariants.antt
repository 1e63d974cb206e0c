use Rattle.std.proofs.Common.{◌*◌}
use Rattle.gas.specs.Streaming.{arriving}
use Rattle.step.specs.Results.{Filled}
use Rattle.step.proofs.streams.stream_rows.Given as goal

-- after so many rows
abbrev pub invariant-loop-row : goal.invariant-loop-row
invariant-loop-row g l =
    Filled (l.row * l.grid.width) (arriving (g.G.Gas.model l.gas) l.grid.width l.grid.height l.from) l.initial.field l.field
