use Rattle.std.proofs.Common.{rules}
use Rattle.calls.proofs.Beginnings.{blank_begins}
use Rattle.run.specs.View.{view}
use Rattle.run.proofs.run.Run.blank.Goals as goal

pub returns-clause-law : goal.returns-clause-law
returns-clause-law g c =
    λ _. blank_begins (view g.G.Gas g.S.TwistSource c.args.self.now) (g.met.G.Gas.lawful c.args.self.now.gas) (g.met.S.TwistSource.lawful c.args.self.now.state.source)
    c.args.width c.args.height c.args.map.now c.args.field.now _ _ _ (search rules)
