use Rattle.std.proofs.Common.{◌≡◌, ℕ, ◌+◌, ◌^◌, ap, ◌∙◌, sym, add-one, arith}
use Rattle.std.proofs.Math.Nat.{two-pow-succ}
use Rattle.lattice.proofs.Making.{state_of-none, state_of_yes, state_of_no}
use Rattle.lattice.proofs.states.state_where.Goals as goal
use Rattle.lattice.proofs.states.state_where.Goals.{then-holds, else-holds}

pub loop-channel-init : goal.loop-channel-init
loop-channel-init g c = (omega arith, λ p h. state_of-none p)

pub loop-channel-preserved : goal.loop-channel-preserved
loop-channel-preserved g c =
    let q = c.loop-channel.channel in
    let more : 2 ^ (q + 1) ≡ 2 ^ q + 2 ^ q = ap (λ (k : ℕ). 2 ^ k) (add-one q) ∙ two-pow-succ q in
    let before = c.loop-channel.invariant in
    elim c.if-holds.branch [
      | then-holds w ↦ (
        omega (arith, more, before.0, w.state-is, w.with_particle-state.ensures),
        λ p h.
            w.state-is
            ∙ w.with_particle-state.ensures
            ∙ ap (λ (s : ℕ). s + 2 ^ q) (before.1 p (λ k b l. h k b (omega arith)))
            ∙ state_of_yes q p (sym (h q _ (omega arith) c.holds.ensures) ∙ w.if-holds.true),
      )
      | else-holds w ↦ (
        omega (arith, more, before.0, w.state-is),
        λ p h. w.state-is ∙ before.1 p (λ k b l. h k b (omega arith)) ∙ state_of_no q p (sym (h q _ (omega arith) c.holds.ensures) ∙ w.if-holds.false),
      )
    ]
