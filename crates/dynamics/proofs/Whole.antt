-- From one step to k steps.
use Rattle.std.proofs.Common.{zero, suc, refl, ◌∙◌}
use Rattle.dynamics.specs.Pushes.{after_steps}
use Rattle.dynamics.specs.Balance.{StepsKeep}
use Rattle.dynamics.proofs.Keeps.{step_keeps}

pub steps_keep : StepsKeep
steps_keep zero t sound = record { particles = refl; balance = refl; sound = sound }
steps_keep (suc k) t sound =
    let before = steps_keep k t sound in
    let now = step_keeps (after_steps k t) before.sound in
    record { particles = now.particles ∙ before.particles; balance = now.balance ∙ before.balance; sound = now.sound }
