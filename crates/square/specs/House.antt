-- The house rules pass the test of soundness: it is computed over the whole table.
use Rattle.std.specs.Prelude.{◌≡◌, true, refl}
use Rattle.lattice.specs.Sums.{sum_n, sum_z}
use Rattle.lattice.specs.Firsts.{first}
use Rattle.gas.specs.Judging.{good_table}
use Rattle.square.specs.Square.{square}

pub house_good : good_table square square.house ≡ true
unfolding sum_n sum_z first
house_good = refl
