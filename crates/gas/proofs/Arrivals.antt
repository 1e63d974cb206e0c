-- What arrives at a cell is gathered from the cells that lie the opposite way.
use Rattle.std.proofs.Common.{◌≡◌, ℕ, ◌<◌, List, get_or, ap}
use Rattle.lattice.specs.States.{holds}
use Rattle.lattice.specs.Sources.{gathered}
use Rattle.lattice.proofs.Making.{state_of_same}
use Rattle.gas.specs.Model.{GasModel}
use Rattle.gas.specs.Streaming.{arriving}

pub gathered-arriving : (m : GasModel) (w h i : ℕ) (from sources : List ℕ) → ((q : ℕ) → q < m.channels → get_or sources q 0 ≡ m.neighbour w h (m.opposite q) i)
    → gathered m.channels from sources ≡ arriving m w h from i
unfolding gathered
gathered-arriving m w h i from sources there = state_of_same m.channels _ _ (λ q l. ap (λ (s : ℕ). holds (get_or from s 0) q) (there q l))
