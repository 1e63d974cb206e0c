use Rattle.std.proofs.Common.{◌≡◌, ◌*◌}
use Rattle.lattice.specs.Sums.{count_n}
use Rattle.dynamics.specs.States.{state_of}
use Rattle.dynamics.specs.Step.{collided_at}
use Rattle.dynamics.specs.Pushes.{turns_at}
use Rattle.step.specs.Rows.{asked}
use Rattle.step.specs.Results.{Filled}
use Rattle.step.specs.Scenes.{scene_of}
use Rattle.step.proofs.rows.collide_rows.Given as goal

-- after so many rows
abbrev pub invariant-loop-row : goal.invariant-loop-row
invariant-loop-row g l =
    let s = state_of g.G.Gas g.S.TwistSource l.gas l.initial.state in
    let t = scene_of s l.map l.field in
    let n = l.row * s.width in
    Filled n (collided_at t) l.initial.spare l.spare × (l.turned ≡ count_n n (turns_at t)) × (state_of g.G.Gas g.S.TwistSource l.gas l.state ≡ asked n s)
