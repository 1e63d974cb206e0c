use Rattle.dynamics.proofs.Decide.{moves_decide}
use Rattle.dynamics.proofs.laws.moves_decide.Goals as goal

pub returns : goal.returns
returns c = moves_decide
