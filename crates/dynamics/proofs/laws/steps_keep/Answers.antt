use Rattle.dynamics.proofs.Whole.{steps_keep}
use Rattle.dynamics.proofs.laws.steps_keep.Goals as goal

pub returns : goal.returns
returns c = steps_keep
