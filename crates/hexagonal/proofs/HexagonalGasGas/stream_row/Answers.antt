-- The gas has all seven channels of the lattice.
use Rattle.std.proofs.Common.{arith}
use Rattle.hexagonal.specs.Hexagonal.{hexagonal}
use Rattle.hexagonal.specs.Lawful.{hexagonal_comes}
use Rattle.hexagonal.proofs.HexagonalGasGas.stream_row.Goals as goal

pub returns : goal.returns
returns c = c.stream_hexagonal_row.ensures hexagonal record { count = omega arith; comes = hexagonal_comes }
