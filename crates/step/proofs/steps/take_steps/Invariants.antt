use Rattle.dynamics.specs.States.{state_of}
use Rattle.step.specs.Scenes.{scene_of}
use Rattle.step.specs.Taken.{Taken}
use Rattle.step.proofs.steps.take_steps.Given as goal

abbrev pub invariant-loop-done : goal.invariant-loop-done
invariant-loop-done g l =
    Taken (scene_of (state_of g.G.Gas g.S.TwistSource l.gas l.initial.state) l.map l.initial.field) l.done l.initial.field l.field l.initial.spare l.spare (state_of g.G.Gas g.S.TwistSource l.gas l.state)
