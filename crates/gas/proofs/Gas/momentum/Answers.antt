use Rattle.std.proofs.Common.{◌<◌, sym, ◌∙◌, ap₂, subst, arith}
use Rattle.std.proofs.lemmas.Int.{ints}
use Rattle.lattice.specs.States.{holds}
use Rattle.lattice.specs.Vectors.{still, added}
use Rattle.lattice.proofs.Vectors.{same_vector, sum_v_start, sum_v_more_yes, sum_v_more_no, Within}
use Rattle.gas.proofs.Bounds.{momentum_small}
use Rattle.gas.proofs.Gas.momentum.Goals as goal
use Rattle.gas.proofs.Gas.momentum.Goals.{then-held, else-held}

pub loop-channel-init : goal.loop-channel-init
loop-channel-init g c = same_vector _ still c.default-momentum.ensures.0 c.default-momentum.ensures.1 ∙ sum_v_start _

pub add_assign-requires : goal.add_assign-requires
add_assign-requires g c =
    let m = g.Self.Gas.model c.args.self.now in
    let laws = g.met.Self.Gas.lawful c.args.self.now in
    let q = c.loop-channel.channel in
    let inside : q < m.channels = omega (arith, c.loop-channel-test.true, c.channels-channel-end.ensures) in
    let so_far : Within 14 c.loop-channel.momentum = subst (Within 14) (sym c.loop-channel.invariant) (momentum_small m laws c.args.state q (omega arith)) in
    let one : Within 2 c.vector.result = subst (Within 2) (sym c.vector.ensures) (laws.short q inside) in
    (omega (arith, ints), omega (arith, ints))

pub loop-channel-preserved : goal.loop-channel-preserved
loop-channel-preserved g c =
    let m = g.Self.Gas.model c.args.self.now in
    let q = c.loop-channel.channel in
    elim c.if-held.branch [
      | then-held w ↦
          w.momentum-is ∙ w.add_assign.ensures.after ∙ ap₂ added c.loop-channel.invariant w.vector.ensures ∙ sym (sum_v_more_yes q (holds c.args.state) m.vector (sym c.held.ensures ∙ w.if-held.true))
      | else-held w ↦ w.momentum-is ∙ c.loop-channel.invariant ∙ sym (sum_v_more_no q (holds c.args.state) m.vector (sym c.held.ensures ∙ w.if-held.false))
    ]
