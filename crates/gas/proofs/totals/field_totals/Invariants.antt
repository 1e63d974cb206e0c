use Rattle.std.proofs.Common.{◌≡◌, get_or}
use Rattle.lattice.specs.Sums.{sum_n}
use Rattle.lattice.specs.Vectors.{sum_v}
use Rattle.gas.specs.Model.{particles, momentum}
use Rattle.gas.proofs.totals.field_totals.Given as goal

abbrev pub invariant-loop-state : goal.invariant-loop-state
invariant-loop-state g l =
    (l.totals.particles ≡ sum_n l.state-index (λ i. particles (g.G.Gas.model l.gas) (get_or l.field i 0)))
    × (l.totals.momentum ≡ sum_v l.state-index (λ i. momentum (g.G.Gas.model l.gas) (get_or l.field i 0)))
