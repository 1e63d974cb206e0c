-- The pushes of a step: which they are, and that each is small.
use Rattle.std.proofs.Common.{◌≡◌, ℕ, ◌+◌, ◌<◌, ◌≤◌, Bool, cond, eqb, get_or, ℤ, pos, ◌*ℤ◌, nat_abs, sym, ap, subst, inl, inr, arith}
use Rattle.std.proofs.lemmas.Int.{ints}
use Rattle.std.proofs.lemmas.Bool.{cases_eq, eq-eqb, ne_eqb, cond-true, cond-false}
use Rattle.lattice.specs.declared.vector.Vector.{Vector}
use Rattle.lattice.specs.Grids.{most_cells}
use Rattle.lattice.specs.Sums.{sum_z, count_n}
use Rattle.lattice.specs.Vectors.{sum_v}
use Rattle.lattice.proofs.Sums.{sum_same, sum_count, sum_nat_abs, cond_nat_abs}
use Rattle.lattice.proofs.Vectors.{same_vector}
use Rattle.gas.specs.Model.{momentum}
use Rattle.gas.proofs.Bounds.{momentum_small}
use Rattle.book.specs.Accounts.{obstacles, accounts, fan_account, most_push}
use Rattle.dynamics.specs.Roles.{is_wall_of}
use Rattle.dynamics.specs.Tunnels.{Tunnel, cells}
use Rattle.dynamics.specs.Step.{role_at}
use Rattle.dynamics.specs.Pushes.{wall_push, fan_push, push_on, turns_at}
use Rattle.dynamics.specs.Balance.{wall_pushes}
use Rattle.dynamics.specs.Soundness.{SoundTunnel}

pub push_on_wall : (t : Tunnel) (n : ℕ) → n ≤ obstacles → push_on t n ≡ wall_push t n
push_on_wall t n l = cond-false (eqb n fan_account) (fan_push t) (wall_push t n) (ne_eqb n fan_account (λ e. omega arith))

pub push_on_fan : (t : Tunnel) (n : ℕ) → n ≡ fan_account → push_on t n ≡ fan_push t
push_on_fan t n e = cond-true (eqb n fan_account) (fan_push t) (wall_push t n) (eq-eqb n fan_account e)

pub wall_pushes_lem : (t : Tunnel) → wall_pushes t ≡ sum_v obstacles (λ k. wall_push t (k + 1))
wall_pushes_lem t =
    let e : (k : ℕ) → k < obstacles → push_on t (k + 1) ≡ wall_push t (k + 1) = λ k l. push_on_wall t (k + 1) (omega arith) in
    same_vector _ _
    (sum_same obstacles (λ k. (push_on t (k + 1)).along) (λ k. (wall_push t (k + 1)).along) (λ k l. ap (λ (v : Vector). v.along) (e k l)))
    (sum_same obstacles (λ k. (push_on t (k + 1)).across) (λ k. (wall_push t (k + 1)).across) (λ k l. ap (λ (v : Vector). v.across) (e k l)))

-- twice what some of n cells give, each at most 14
few_cells : (n : ℕ) (p : ℕ → Bool) (x : ℕ → ℤ) → n ≤ most_cells → ((i : ℕ) → nat_abs (x i) ≤ 14) → nat_abs (pos 2 *ℤ sum_z n (λ i. cond (p i) (x i) (pos 0))) ≤ most_push
few_cells n p x few short =
    let all = sum_nat_abs n 14 (λ i. cond (p i) (x i) (pos 0)) (λ i l. cond_nat_abs (p i) (x i) 14 (short i)) in
    omega (arith, ints)

-- the same where each cell gives the same
few_turned : (n : ℕ) (p : ℕ → Bool) (x : ℤ) → n ≤ most_cells → nat_abs x ≤ 2 → nat_abs (pos 2 *ℤ (pos (count_n n p) *ℤ x)) ≤ most_push
few_turned n p x few short = subst (λ (z : ℤ). nat_abs (pos 2 *ℤ z) ≤ most_push) (sum_count n p x) (few_cells n p (λ _. x) few (λ i. omega arith))

module _ (t : Tunnel) (sound : SoundTunnel t) where
  wall_small : (n : ℕ) → (nat_abs (wall_push t n).along ≤ most_push) × (nat_abs (wall_push t n).across ≤ most_push)
  wall_small n =
      let g = t.run.gas in
      let few = sound.run.grid.few in
      let each = λ (i : ℕ). momentum_small g sound.run.gas (get_or t.field i 0) g.channels (omega arith) in (
        few_cells (cells t.run) (λ i. is_wall_of n (role_at t i)) (λ i. (momentum g (get_or t.field i 0)).along) few (λ i. (each i).0),
        few_cells (cells t.run) (λ i. is_wall_of n (role_at t i)) (λ i. (momentum g (get_or t.field i 0)).across) few (λ i. (each i).1),
      )

  fan_small : (nat_abs (fan_push t).along ≤ most_push) × (nat_abs (fan_push t).across ≤ most_push)
  fan_small =
      let few = sound.run.grid.few in
      let short = sound.run.gas.short 0 sound.run.gas.some in (
        few_turned (cells t.run) (turns_at t) (t.run.gas.vector 0).along few short.0,
        few_turned (cells t.run) (turns_at t) (t.run.gas.vector 0).across few short.1,
      )

  pub push_small : (n : ℕ) → n ≤ accounts → (nat_abs (push_on t n).along ≤ most_push) × (nat_abs (push_on t n).across ≤ most_push)
  push_small n l =
      let Small : Vector → Type 0 = λ v. (nat_abs v.along ≤ most_push) × (nat_abs v.across ≤ most_push) in
      elim (cases_eq n fan_account) [
        | inl e ↦ subst Small (sym (push_on_fan t n e)) fan_small
        | inr d ↦ subst Small (sym (push_on_wall t n (omega arith))) (wall_small n)
      ]
