-- The balance of a step for any weight of the channels that the table keeps.
use Rattle.std.proofs.Common.{◌≡◌, ℕ, ◌<◌, Bool, true, false, cond, ◌&&◌, List, get_or, ℤ, pos, ◌+ℤ◌, sym, refl, ap, ◌∙◌}
use lib.IntN.{+ℤ_idr}
use Rattle.std.proofs.lemmas.Bool.{and_parts, not-true}
use Rattle.lattice.specs.Sums.{sum_z}
use Rattle.lattice.proofs.Sums.{sum_same, sum_add}
use Rattle.lattice.proofs.Turnings.{Turning}
use Rattle.gas.specs.Model.{GasModel, states, outcome}
use Rattle.gas.specs.Laws.{GasLaws}
use Rattle.gas.specs.Streaming.{arriving}
use Rattle.dynamics.specs.declared.role.Role.{Role}
use Rattle.dynamics.specs.declared.role.Role.TheVariants.{Open, Wall, Fan}
use Rattle.dynamics.specs.Roles.{is_fan}
use Rattle.dynamics.specs.Cells.{can_turn, turned, collision}
use Rattle.dynamics.specs.Tunnels.{Tunnel, cells}
use Rattle.dynamics.specs.Step.{fan_acts, role_at, twist_at, collided_at, collided, streamed}
use Rattle.dynamics.specs.Pushes.{turns_at}
use Rattle.dynamics.specs.Soundness.{SoundTunnel}
use Rattle.dynamics.proofs.Lists.{get_d_listed}
use Rattle.dynamics.proofs.Walls.{is_wall}
use Rattle.dynamics.proofs.Weights.{weigh, weigh_moved, weigh_bounced, weigh_turned}

opposites : (g : GasModel) → GasLaws g → Turning g.channels g.opposite g.opposite
opposites g laws = record { goes = laws.opposite_in; comes = laws.opposite_in; there = laws.opposite_twice; back = laws.opposite_twice }

-- a particle that the wall sends back from channel q gives away u q; the table keeps v
module _ (g : GasModel) (laws : GasLaws g) (entries : List ℕ) (acts twist : Bool) (u v : ℕ → ℤ)
    (gives : (q : ℕ) → q < g.channels → v (g.opposite q) +ℤ u q ≡ v q)
    (kept : (s : ℕ) → s < states g → weigh g.channels v (outcome g entries twist s) ≡ weigh g.channels v s) where
  at_fan : (e : ℕ) (t : Bool) → (acts && can_turn g e) ≡ t → weigh g.channels v (cond t (turned g e) e) ≡ weigh g.channels v e +ℤ cond t (u 0) (pos 0)
  at_fan e true h =
      let p = and_parts _ _ (and_parts _ _ h).1 in
      weigh_turned g.channels g.opposite (opposites g laws) u v gives e laws.some p.0 (not-true _ p.1)
  at_fan e false h = sym (+ℤ_idr _)

  -- one cell
  at_role : (r : Role) (s : ℕ) → s < states g
      → weigh g.channels v (collision g entries acts twist r s) +ℤ cond (is_wall r) (weigh g.channels u s) (pos 0)
      ≡ weigh g.channels v s +ℤ cond (is_fan r && (acts && can_turn g (outcome g entries twist s))) (u 0) (pos 0)
  at_role Open s l = ap (λ (z : ℤ). z +ℤ pos 0) (kept s l)
  at_role (Wall k) s l = weigh_bounced g.channels g.opposite (opposites g laws) u v gives s ∙ sym (+ℤ_idr _)
  at_role Fan s l =
      let e = outcome g entries twist s in
      +ℤ_idr _ ∙ at_fan e _ refl ∙ ap (λ (z : ℤ). z +ℤ cond (acts && can_turn g e) (u 0) (pos 0)) (kept s l)

module _ (t : Tunnel) (sound : SoundTunnel t) where
  -- the cell that channel q of a cell comes from, and back
  pub neighbours : (q : ℕ) → q < t.run.gas.channels
      → Turning (cells t.run) (t.run.gas.neighbour t.run.width t.run.height (t.run.gas.opposite q)) (t.run.gas.neighbour t.run.width t.run.height q)
  neighbours q l =
      let laws = sound.run.gas in
      let grid = sound.run.grid in
      let o = t.run.gas.opposite in
      let next = t.run.gas.neighbour t.run.width t.run.height in
      record {
        goes = λ j h. laws.neighbour_in _ _ (o q) j grid (laws.opposite_in q l) h;
        comes = λ j h. laws.neighbour_in _ _ q j grid l h;
        there = λ j h. ap (λ (p : ℕ). next p (next (o q) j)) (sym (laws.opposite_twice q l)) ∙ laws.there_and_back _ _ (o q) j grid (laws.opposite_in q l) h;
        back = λ j h. laws.there_and_back _ _ q j grid l h;
      }

  pub collided_at_lem : (i : ℕ) → i < cells t.run → get_or (collided t) i 0 ≡ collided_at t i
  collided_at_lem i l = get_d_listed (cells t.run) (collided_at t) i 0 l

  pub streamed_at : (j : ℕ) → j < cells t.run → get_or (streamed t) j 0 ≡ arriving t.run.gas t.run.width t.run.height (collided t) j
  streamed_at j l = get_d_listed (cells t.run) (arriving t.run.gas t.run.width t.run.height (collided t)) j 0 l

  weigh_streamed : (v : ℕ → ℤ) → sum_z (cells t.run) (λ j. weigh t.run.gas.channels v (get_or (streamed t) j 0)) ≡ sum_z (cells t.run) (λ i. weigh t.run.gas.channels v (collided_at t i))
  weigh_streamed v =
      let c = t.run.gas.channels in
      let n = cells t.run in
      let next = t.run.gas.neighbour t.run.width t.run.height in
      sum_same n _ _ (λ j l. ap (weigh c v) (streamed_at j l))
      ∙ weigh_moved c n (λ q. next (t.run.gas.opposite q)) next neighbours (λ i. get_or (collided t) i 0) v
      ∙ sum_same n _ _ (λ i l. ap (weigh c v) (collided_at_lem i l))

  pub balance : (u v : ℕ → ℤ)
      → ((q : ℕ) → q < t.run.gas.channels → v (t.run.gas.opposite q) +ℤ u q ≡ v q)
      → ((b : Bool) (s : ℕ) → s < states t.run.gas → weigh t.run.gas.channels v (outcome t.run.gas t.run.entries b s) ≡ weigh t.run.gas.channels v s)
      → sum_z (cells t.run) (λ j. weigh t.run.gas.channels v (get_or (streamed t) j 0)) +ℤ sum_z (cells t.run) (λ i. cond (is_wall (role_at t i)) (weigh t.run.gas.channels u (get_or t.field i 0)) (pos 0))
      ≡ sum_z (cells t.run) (λ i. weigh t.run.gas.channels v (get_or t.field i 0)) +ℤ sum_z (cells t.run) (λ i. cond (turns_at t i) (u 0) (pos 0))
  balance u v gives kept =
      let n = cells t.run in
      ap (λ (z : ℤ). z +ℤ sum_z n (λ i. cond (is_wall (role_at t i)) (weigh t.run.gas.channels u (get_or t.field i 0)) (pos 0))) (weigh_streamed v)
      ∙ sym (sum_add n _ _)
      ∙ sum_same n _ _ (λ i l.
      at_role t.run.gas sound.run.gas t.run.entries (fan_acts t.run.period t.run.steps) (twist_at t i) u v gives (kept (twist_at t i)) (role_at t i) (get_or t.field i 0) (sound.field i l))
      ∙ sum_add n _ _
