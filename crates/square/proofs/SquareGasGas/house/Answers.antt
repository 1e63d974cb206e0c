use Rattle.square.specs.House.{house_good}
use Rattle.square.proofs.SquareGasGas.house.Goals as goal

pub invariant_of-self : goal.invariant_of-self
invariant_of-self c = record { sound = house_good }
