-- A state stays if it is its own outcome.
use Rattle.std.specs.Prelude.{ℕ, Bool, List, nat_eq}
use Rattle.lattice.specs.Sums.{count_n}
use Rattle.gas.specs.Model.{GasModel, states, outcome}

-- how many states stay under twist b
abbrev pub staying : GasModel → List ℕ → Bool → ℕ
staying m entries b = count_n (states m) (λ n. nat_eq (outcome m entries b n) n)
