-- The states that the chain keeps are those that are their own outcome.
use Rattle.std.proofs.Common.{◌≡◌, ℕ, Bool, eqb, ap, ◌^◌, ◌∙◌, rules}
use borrow.Author.Tests.{tests}
use Rattle.std.proofs.lemmas.Iterator.{YieldsList-from_range}
use Rattle.std.proofs.lemmas.Iterator.Consumers.{YieldsList-from_filter, count_from_yields_List, YieldsList-at}
use Rattle.lattice.specs.Sums.{count_n}
use Rattle.lattice.proofs.Counts.{length-filter-range}
use Rattle.gas.specs.Model.{states, outcome}
use Rattle.rules.proofs.staying.Goals as goal

pub returns : goal.returns
returns g c =
    let m = g.G.Gas.model c.args.gas.now in
    let stays : ℕ → Bool = λ n. eqb (outcome m (g.G.Gas.entries c.args.gas.now) c.args.twist n) n in
    count_from_yields_List c.filter.result _ c.count.ensures.ran
    (YieldsList-from_filter _ stays (YieldsList-at c.filter.ensures.source (YieldsList-from_range 0 (states m) (states m) (search rules) (search rules))) c.filter.ensures.closure (λ x r q k. search (rules, tests)))
    ∙ length-filter-range (states m) stays
