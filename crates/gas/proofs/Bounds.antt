-- How many particles a state or a field can have, and how large their momentum can be: one and two for each channel.
use Rattle.std.proofs.Common.{ℕ, ◌*◌, ◌≤◌, cond, List, get_or, pos, nat_abs, arith}
use Rattle.lattice.specs.Sums.{sum_n, sum_z}
use Rattle.lattice.specs.States.{holds, momentum}
use Rattle.lattice.proofs.Sums.{sum_nat_abs, sum_n_bound, cond_nat_abs}
use Rattle.lattice.proofs.Making.{particles_few}
use Rattle.gas.specs.Model.{GasModel, particles, momentum as momentum_of}
use Rattle.gas.specs.Laws.{GasLaws}

pub momentum_small : (m : GasModel) → GasLaws m → (s q : ℕ) → q ≤ m.channels → (nat_abs (momentum q m.vector s).along ≤ 14) × (nat_abs (momentum q m.vector s).across ≤ 14)
momentum_small m laws s q l =
    let few = laws.few in
    let a = sum_nat_abs q 2 (λ k. cond (holds s k) (m.vector k).along (pos 0)) (λ k h. cond_nat_abs (holds s k) _ 2 (laws.short k (omega arith)).0) in
    let b = sum_nat_abs q 2 (λ k. cond (holds s k) (m.vector k).across (pos 0)) (λ k h. cond_nat_abs (holds s k) _ 2 (laws.short k (omega arith)).1) in
    (omega arith, omega arith)

pub particles_small : (m : GasModel) → GasLaws m → (s : ℕ) → particles m s ≤ 7
particles_small m laws s = omega (arith, laws.few, particles_few m.channels s)

-- of the first n cells of a field
pub field_particles_small : (m : GasModel) → GasLaws m → (xs : List ℕ) (n : ℕ) → sum_n n (λ i. particles m (get_or xs i 0)) ≤ n * 7
field_particles_small m laws xs n = sum_n_bound n 7 (λ i. particles m (get_or xs i 0)) (λ i l. particles_small m laws (get_or xs i 0))

pub field_momentum_small : (m : GasModel) → GasLaws m → (xs : List ℕ) (n : ℕ)
    → (nat_abs (sum_z n (λ i. (momentum_of m (get_or xs i 0)).along)) ≤ n * 14) × (nat_abs (sum_z n (λ i. (momentum_of m (get_or xs i 0)).across)) ≤ n * 14)
field_momentum_small m laws xs n = (
  sum_nat_abs n 14 (λ i. (momentum_of m (get_or xs i 0)).along) (λ i l. (momentum_small m laws (get_or xs i 0) m.channels (omega arith)).0),
  sum_nat_abs n 14 (λ i. (momentum_of m (get_or xs i 0)).across) (λ i l. (momentum_small m laws (get_or xs i 0) m.channels (omega arith)).1),
)
