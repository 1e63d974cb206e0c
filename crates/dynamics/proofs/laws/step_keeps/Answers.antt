use Rattle.dynamics.proofs.Keeps.{step_keeps}
use Rattle.dynamics.proofs.laws.step_keeps.Goals as goal

pub returns : goal.returns
returns c = step_keeps
