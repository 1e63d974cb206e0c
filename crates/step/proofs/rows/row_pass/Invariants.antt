use Rattle.std.proofs.Common.{◌≡◌, ◌≤◌}
use Rattle.dynamics.specs.States.{state_of}
use Rattle.dynamics.specs.Step.{mark_at}
use Rattle.step.specs.Rows.{cell_in, RowCollided}
use Rattle.step.proofs.rows.row_pass.Given as goal

-- after so many columns
abbrev pub invariant-loop-column : goal.invariant-loop-column
invariant-loop-column g l =
    let s = state_of g.G.Gas g.S.TwistSource l.gas l.initial.state in
    (l.turned ≤ l.column)
    × RowCollided l.column (cell_in s l.row l.map l.field) l.initial.spare l.spare l.turned
    × (g.S.TwistSource.mark l.source ≡ mark_at s.twist s.mark l.column)
    × (g.S.TwistSource.model l.source ≡ s.twist)
