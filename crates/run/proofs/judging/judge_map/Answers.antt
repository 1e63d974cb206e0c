use Rattle.std.proofs.Common.{leb, sym, ap, ◌∙◌}
use Rattle.lattice.proofs.Firsts.{position_take}
use Rattle.faults.specs.declared.call.CallFault.TheVariants.{MapByte}
use Rattle.calls.specs.Grounds.{fault_at}
use Rattle.calls.specs.Outcomes.{reply}
use Rattle.run.proofs.judging.judge_map.Goals as goal

pub returns-in-Some : goal.returns-in-Some
returns-in-Some c =
    ap (λ o. reply (fault_at MapByte o) tt) (sym c.in-Some.is ∙ c.first_from.ensures ∙ position_take (λ b. leb 17 b) c.args.cells c.args.map.now c.requires)

pub returns-in-None : goal.returns-in-None
returns-in-None c =
    ap (λ o. reply (fault_at MapByte o) tt) (sym c.in-None.is ∙ c.first_from.ensures ∙ position_take (λ b. leb 17 b) c.args.cells c.args.map.now c.requires)
