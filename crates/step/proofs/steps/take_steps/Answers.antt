use Rattle.std.proofs.Common.{◌≡◌, ◌+◌, ◌*◌, sym, ap, ◌∙◌, subst, arith}
use Rattle.dynamics.specs.Tunnels.{RunState, cells}
use Rattle.dynamics.specs.States.{state_of}
use Rattle.dynamics.specs.Soundness.{SoundTunnel}
use Rattle.dynamics.proofs.Whole.{steps_keep}
use Rattle.step.specs.Scenes.{scene_of}
use Rattle.step.proofs.Again.{same, scene_again, taken_more}
use Rattle.step.proofs.steps.take_steps.Goals as goal

pub step-requires : goal.step-requires
step-requires g c =
    let s = state_of g.G.Gas g.S.TwistSource c.args.gas.now c.args.state.now in
    let t = scene_of s c.args.map.now c.args.field.now in
    let k = c.loop-done.done in
    let inv = c.loop-done.invariant in
    let kept = same k t in
    let now = scene_again s c.args.map.now c.args.field.now c.requires.sound k c.loop-done.field (state_of g.G.Gas g.S.TwistSource c.args.gas.now c.loop-done.state) inv.field_is inv.run_is in
    let size : c.loop-done.state.grid.width * c.loop-done.state.grid.height ≡ cells s = ap cells inv.run_is ∙ (λ j. kept.width j * kept.height j) in
    let steps : c.loop-done.state.steps ≡ s.steps + k = ap (λ (x : RunState). x.steps) inv.run_is ∙ kept.steps in
    record {
      sound = subst SoundTunnel (sym now) (steps_keep k t c.requires.sound).sound;
      spare = omega (arith, c.requires.spare, c.loop-done.auto.spare, size);
      steps = omega (arith, c.requires.steps, c.loop-done-test.true, steps);
    }

pub loop-done-preserved : goal.loop-done-preserved
loop-done-preserved g c =
    taken_more (state_of g.G.Gas g.S.TwistSource c.args.gas.now c.args.state.now) c.args.map.now c.args.field.now c.requires.sound c.loop-done.done
    c.args.spare.now c.loop-done.spare c.step.new.spare c.loop-done.field c.step.new.field
    (state_of g.G.Gas g.S.TwistSource c.args.gas.now c.loop-done.state) (state_of g.G.Gas g.S.TwistSource c.args.gas.now c.step.new.state)
    c.loop-done.invariant (c.step.ensures.field, c.step.ensures.spare, c.step.ensures.run)
