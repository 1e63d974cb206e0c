-- The sums so far, and with one state more.
use Rattle.std.proofs.Common.{◌≡◌, ℕ, ◌*◌, ◌≤◌, length, get_or, sym, ap, ◌∙◌, ap₂, subst, rules, arith}
use Rattle.std.proofs.lemmas.Int.{ints}
use Rattle.lattice.specs.Vectors.{still, added, sum_v}
use Rattle.lattice.proofs.Sums.{sum_n_start, sum_n_more}
use Rattle.lattice.proofs.Vectors.{same_vector, sum_v_start, sum_v_more, Within}
use Rattle.gas.specs.Model.{particles, momentum}
use Rattle.gas.proofs.Bounds.{momentum_small, particles_small, field_particles_small, field_momentum_small}
use Rattle.gas.proofs.totals.field_totals.Goals as goal

pub loop-state-init : goal.loop-state-init
loop-state-init g c =
    let none = c.default-totals.ensures in
    (none.0 ∙ sum_n_start _, same_vector _ still none.1.0 none.1.1 ∙ sum_v_start _)

pub overflow_add-totals : goal.overflow_add-totals
overflow_add-totals g c =
    let m = g.G.Gas.model c.args.gas.now in
    let laws = g.met.G.Gas.lawful c.args.gas.now in
    let xs = c.args.field.now in
    let i = c.loop-state.state-index in
    let so_far : c.loop-state.totals.particles ≤ i * 7 = subst (λ (n : ℕ). n ≤ i * 7) (sym c.loop-state.invariant.0) (field_particles_small m laws xs i) in
    let one = particles_small m laws (get_or xs i 0) in
    omega (arith, c.requires, c.loop-state-test.true, c.from.ensures, c.particles.ensures)

pub add_assign-requires : goal.add_assign-requires
add_assign-requires g c =
    let m = g.G.Gas.model c.args.gas.now in
    let laws = g.met.G.Gas.lawful c.args.gas.now in
    let xs = c.args.field.now in
    let i = c.loop-state.state-index in
    let few : i ≤ 16384 = omega (arith, c.requires, c.loop-state-test.true) in
    let so_far : Within (i * 14) c.loop-state.totals.momentum = subst (Within (i * 14)) (sym c.loop-state.invariant.1) (field_momentum_small m laws xs i) in
    let one : Within 14 c.momentum.result = subst (Within 14) (sym c.momentum.ensures) (momentum_small m laws (get_or xs i 0) m.channels (omega arith)) in
    (omega (arith, ints), omega (arith, ints))

pub loop-state-preserved : goal.loop-state-preserved
loop-state-preserved g c =
    let m = g.G.Gas.model c.args.gas.now in
    let xs = c.args.field.now in
    let i = c.loop-state.state-index in (
      omega (arith, c.loop-state.invariant.0, c.from.ensures, c.particles.ensures, sum_n_more i (λ k. particles m (get_or xs k 0))),
      c.add_assign.ensures.after ∙ ap₂ added c.loop-state.invariant.1 c.momentum.ensures ∙ sym (sum_v_more i (λ k. momentum m (get_or xs k 0))),
    )

pub returns-clause-momentum : goal.returns-clause-momentum
returns-clause-momentum g c =
    let m = g.G.Gas.model c.args.gas.now in
    let xs = c.args.field.now in
    let end : c.loop-state.state-index ≡ length xs = omega (arith, c.loop-state-test.false) in
    let all = c.loop-state.invariant.1 ∙ ap (λ (n : ℕ). sum_v n (λ i. momentum m (get_or xs i 0))) end in
    search (rules, all)
