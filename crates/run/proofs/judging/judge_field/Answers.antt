use Rattle.std.proofs.Common.{leb, sym, ap, ◌∙◌}
use Rattle.lattice.proofs.Firsts.{position_take}
use Rattle.faults.specs.declared.call.CallFault.TheVariants.{FieldByte}
use Rattle.calls.specs.Grounds.{fault_at}
use Rattle.calls.specs.Outcomes.{reply}
use Rattle.run.proofs.judging.judge_field.Goals as goal

pub returns-in-Some : goal.returns-in-Some
returns-in-Some c =
    ap (λ o. reply (fault_at FieldByte o) tt) (sym c.in-Some.is ∙ c.first_from.ensures ∙ position_take (λ b. leb c.args.states b) c.args.cells c.args.field.now c.requires)

pub returns-in-None : goal.returns-in-None
returns-in-None c =
    ap (λ o. reply (fault_at FieldByte o) tt) (sym c.in-None.is ∙ c.first_from.ensures ∙ position_take (λ b. leb c.args.states b) c.args.cells c.args.field.now c.requires)
