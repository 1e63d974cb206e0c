use Rattle.square.specs.House.{house_good}
use Rattle.square.proofs.table.SquareGas.new.Goals as goal

pub invariant_of-result : goal.invariant_of-result
invariant_of-result c = record { sound = house_good }
