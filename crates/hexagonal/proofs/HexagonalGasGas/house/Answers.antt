use Rattle.std.proofs.Common.{rules}
use Rattle.hexagonal.specs.HouseLemmas.{table_good}
use Rattle.hexagonal.proofs.HexagonalGasGas.house.Goals as goal

pub invariant_of-self : goal.invariant_of-self
invariant_of-self c = search (rules, table_good)
