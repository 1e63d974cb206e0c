use Rattle.std.proofs.Common.{ℕ, Err, Result, ap, ◌∙◌}
use Rattle.std.proofs.lemmas.Result.{err_from_is_err_and}
use Rattle.faults.specs.declared.call.CallFault.{CallFault}
use Rattle.run.specs.View.{view}
use Rattle.pairing.proofs.Works.{refused_open, Standing, standing, refused_advance, done}
use Rattle.pairing.proofs.jobs.work.Given as given
use Rattle.pairing.proofs.jobs.work.Goals as goal
use Rattle.pairing.proofs.jobs.work.Goals.{In_ok-open}

pub returns-in_err-open : goal.returns-in_err-open
returns-in_err-open g c =
    let told = err_from_is_err_and c.from_residual.result c.from_residual.ensures.1 in
    let gas = g.G.Gas.model c.args.gas in
    let twist = g.S.TwistSource.model c.args.source in
    refused_open gas twist _ _ _ _ c.new-run.ensures c.requires.map_room c.requires.field_room c.args.line.steps c.args.line.patch c.in_err-open.field-0.0 _ _ _ _ _
    c.in_err-open.ensures.outcome (told.1 ∙ ap {B = Result ℕ CallFault} Err told.2)

-- the file stands open
open_at : (g : given.Over) (c : In_ok-open g)
    → Standing (g.G.Gas.model c.args.gas) (g.S.TwistSource.model c.args.source) c.args.file.now c.args.map.now c.args.field.now (view g.G.Gas g.S.TwistSource c.new-run.result) c.new-run.ensures c.requires.map_room c.requires.field_room
    (view g.G.Gas g.S.TwistSource c.open.new.self) c.open.new.map c.open.new.field
open_at g c = standing _ _ _ _ _ _ c.new-run.ensures c.requires.map_room c.requires.field_room _ _ _ c.in_ok-open.ensures.outcome

pub returns-in_err-advance : goal.returns-in_err-advance
returns-in_err-advance g c =
    let told = err_from_is_err_and c.from_residual-in_err-advance.result c.from_residual-in_err-advance.ensures.1 in
    refused_advance (g.G.Gas.model c.args.gas) (g.S.TwistSource.model c.args.source) _ _ _ _ c.new-run.ensures c.requires.map_room c.requires.field_room
    (g.met.G.Gas.lawful c.args.gas) (g.met.S.TwistSource.lawful c.args.source) c.args.line.steps c.args.line.some c.args.line.few _ c.requires.spare_room _ _ _ (open_at g (goal.at.returns-in_err-advance g c).In_ok-open)
    c.args.line.patch c.in_err-advance.field-0.0 _ _ _ _ _ c.in_err-advance.ensures (told.1 ∙ ap {B = Result ℕ CallFault} Err told.2)

pub returns : goal.returns
returns g c =
    done (g.G.Gas.model c.args.gas) (g.S.TwistSource.model c.args.source) _ _ _ _ c.new-run.ensures c.requires.map_room c.requires.field_room
    (g.met.G.Gas.lawful c.args.gas) (g.met.S.TwistSource.lawful c.args.source) c.args.line.steps c.args.line.some c.args.line.few _ c.requires.spare_room _ _ _ (open_at g (goal.at.returns g c).In_ok-open)
    _ _ _ _ c.in_ok-advance.ensures c.args.line.patch _ c.requires.out_size _ _ _ c.report.ensures
