-- Each channel counts for 1 if it holds a particle, and for 0 if not.
use Rattle.std.proofs.Common.{◌<◌, cond, sym, ◌∙◌, subst, ℕ, rules, arith}
use borrow.Author.Tests.{tests}
use Rattle.std.specs.List.{range_with_len}
use Rattle.std.proofs.lemmas.Iterator.{YieldsList-from_range, YieldsList-from_map}
use Rattle.std.proofs.lemmas.Iterator.Consumers.{YieldsList-at, fits_by_from_yields_list, sum_by_from_yields_List}
use Rattle.lattice.specs.States.{holds}
use Rattle.lattice.proofs.Counts.{count-range}
use Rattle.lattice.proofs.Making.{particles_few}
use Rattle.gas.proofs.Gas.particles.Goals as goal

pub sum-requires-clause-fits : goal.sum-requires-clause-fits
sum-requires-clause-fits g c =
    let m = g.Self.Gas.model c.args.self.now in
    let few = (g.met.Self.Gas.lawful c.args.self.now).few in
    let small = particles_few m.channels c.args.state in
    fits_by_from_yields_list (λ q. cond (holds c.args.state q) 1 0) (range_with_len 0 m.channels) c.map.result 256
    (YieldsList-from_map _ (λ q. cond (holds c.args.state q) 1 0) (YieldsList-at c.map.ensures.source (YieldsList-from_range 0 m.channels m.channels (search rules) (search rules))) c.map.ensures.closure (λ x r q k. search (rules, tests)))
    (subst (λ (n : ℕ). n < 256) (sym (count-range m.channels (holds c.args.state))) (omega (arith, few, small)))

pub returns : goal.returns
returns g c =
    let m = g.Self.Gas.model c.args.self.now in
    sum_by_from_yields_List (λ q. cond (holds c.args.state q) 1 0) (range_with_len 0 m.channels) c.map.result _ c.sum.ensures.ran
    (YieldsList-from_map _ (λ q. cond (holds c.args.state q) 1 0) (YieldsList-at c.map.ensures.source (YieldsList-from_range 0 m.channels m.channels (search rules) (search rules))) c.map.ensures.closure (λ x r q k. search (rules, tests)))
    ∙ count-range m.channels (holds c.args.state)
