use Rattle.hexagonal.specs.HouseLemmas.{table_good}
use Rattle.hexagonal.proofs.table.HexagonalGas.new.Goals as goal

pub invariant_of-result : goal.invariant_of-result
invariant_of-result c = record { sound = table_good }
