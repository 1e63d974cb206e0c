-- What a step does to the particles, which weigh 1 each and of which a wall takes none, and to one number of the momentum, of which a
-- wall takes up twice what meets it.
use Rattle.std.proofs.Common.{◌≡◌, ℕ, ◌+◌, ◌<◌, Bool, cond, get_or, ℤ, pos, ◌+ℤ◌, ◌*ℤ◌, neg_ℤ, sym, refl, ap, ◌∙◌, arith}
use Rattle.std.proofs.lemmas.Int.{ints}
use Rattle.lattice.specs.Sums.{sum_n, sum_z, count_n}
use Rattle.lattice.specs.States.{particles}
use Rattle.lattice.proofs.Sums.{sum_same, sum_none, sum_twice, sum_count, sum_pos}
use Rattle.gas.specs.Model.{states, outcome}
use Rattle.book.specs.Accounts.{obstacles}
use Rattle.dynamics.specs.Roles.{is_wall_of}
use Rattle.dynamics.specs.Tunnels.{Tunnel, cells}
use Rattle.dynamics.specs.Step.{role_at, streamed}
use Rattle.dynamics.specs.Pushes.{turns_at}
use Rattle.dynamics.specs.Soundness.{SoundTunnel}
use Rattle.dynamics.proofs.Walls.{is_wall, all_walls}
use Rattle.dynamics.proofs.Weights.{weigh, weigh_nothing, weigh_ones, weigh_twice, cond_same, cond_twice}
use Rattle.dynamics.proofs.Outcomes.{outcome_sound}
use Rattle.dynamics.proofs.Flow.{balance}

from_pos : (a b : ℕ) → pos a ≡ pos b → a ≡ b
from_pos a b e = cc

field_ones : (c n : ℕ) (f : ℕ → ℕ) → pos (sum_n n (λ i. particles c (f i))) ≡ sum_z n (λ i. weigh c (λ q. pos 1) (f i))
field_ones c n f = sum_pos n _ ∙ sum_same n _ _ (λ i l. weigh_ones c (f i))

module _ (t : Tunnel) (sound : SoundTunnel t) where
  pub count_kept : sum_n (cells t.run) (λ i. particles t.run.gas.channels (get_or (streamed t) i 0)) ≡ sum_n (cells t.run) (λ i. particles t.run.gas.channels (get_or t.field i 0))
  count_kept =
      let n = cells t.run in
      let c = t.run.gas.channels in
      let b = balance t sound (λ q. pos 0) (λ q. pos 1) (λ q l. refl)
      (λ b s l. sym (weigh_ones c _) ∙ ap pos (outcome_sound t.run.gas t.run.entries sound.run.entries b s l).counted ∙ weigh_ones c s) in
      let wall : sum_z n (λ i. cond (is_wall (role_at t i)) (weigh c (λ q. pos 0) (get_or t.field i 0)) (pos 0)) ≡ pos 0 =
      sum_same n _ _ (λ i l. ap (λ (z : ℤ). cond (is_wall (role_at t i)) z (pos 0)) (weigh_nothing c (get_or t.field i 0)) ∙ cond_same (is_wall (role_at t i)) (pos 0)) ∙ sum_none n in
      let fan : sum_z n (λ i. cond (turns_at t i) (pos 0) (pos 0)) ≡ pos 0 = sum_same n _ _ (λ i l. cond_same (turns_at t i) (pos 0)) ∙ sum_none n in
      let p = field_ones c n (λ i. get_or (streamed t) i 0) in
      let q = field_ones c n (λ i. get_or t.field i 0) in
      from_pos _ _ (p ∙ rest _ _ _ _ b wall fan ∙ sym q)
    where
      rest : (x y z w : ℤ) → x +ℤ y ≡ z +ℤ w → y ≡ pos 0 → w ≡ pos 0 → x ≡ z
      rest x y z w e f g = omega (arith, ints)

  -- v is one number of the vectors
  pub part-kept : (v : ℕ → ℤ)
      → ((q : ℕ) → q < t.run.gas.channels → v (t.run.gas.opposite q) ≡ neg_ℤ (v q))
      → ((b : Bool) (s : ℕ) → s < states t.run.gas → weigh t.run.gas.channels v (outcome t.run.gas t.run.entries b s) ≡ weigh t.run.gas.channels v s)
      → sum_z (cells t.run) (λ i. weigh t.run.gas.channels v (get_or (streamed t) i 0))
      +ℤ sum_z obstacles (λ k. pos 2 *ℤ sum_z (cells t.run) (λ i. cond (is_wall_of (k + 1) (role_at t i)) (weigh t.run.gas.channels v (get_or t.field i 0)) (pos 0)))
      ≡ sum_z (cells t.run) (λ i. weigh t.run.gas.channels v (get_or t.field i 0)) +ℤ pos 2 *ℤ (pos (count_n (cells t.run) (turns_at t)) *ℤ v 0)
  part-kept v turned kept =
      let n = cells t.run in
      let c = t.run.gas.channels in
      let b = balance t sound (λ q. pos 2 *ℤ v q) v (λ q l. twice (v (t.run.gas.opposite q)) (v q) (turned q l)) kept in
      let wall : sum_z obstacles (λ k. pos 2 *ℤ sum_z n (λ i. cond (is_wall_of (k + 1) (role_at t i)) (weigh c v (get_or t.field i 0)) (pos 0)))
      ≡ sum_z n (λ i. cond (is_wall (role_at t i)) (weigh c (λ q. pos 2 *ℤ v q) (get_or t.field i 0)) (pos 0)) =
      all_walls n (λ i. get_or t.map i 0) (λ i. weigh c v (get_or t.field i 0))
      ∙ sym (sum_twice n _)
      ∙ sum_same n _ _ (λ i l. sym (cond_twice (is_wall (role_at t i)) (weigh c v (get_or t.field i 0))) ∙ ap (λ (z : ℤ). cond (is_wall (role_at t i)) z (pos 0)) (sym (weigh_twice c v (get_or t.field i 0)))) in
      let fan : sum_z n (λ i. cond (turns_at t i) (pos 2 *ℤ v 0) (pos 0)) ≡ pos 2 *ℤ (pos (count_n n (turns_at t)) *ℤ v 0) =
      sum_same n _ _ (λ i l. cond_twice (turns_at t i) (v 0)) ∙ sum_twice n _ ∙ ap (λ (z : ℤ). pos 2 *ℤ z) (sum_count n (turns_at t) (v 0)) in
      ap (λ (z : ℤ). sum_z n (λ i. weigh c v (get_or (streamed t) i 0)) +ℤ z) wall ∙ b ∙ ap (λ (z : ℤ). sum_z n (λ i. weigh c v (get_or t.field i 0)) +ℤ z) fan
    where
      twice : (x y : ℤ) → x ≡ neg_ℤ y → x +ℤ pos 2 *ℤ y ≡ y
      twice x y e = omega (arith, ints)
