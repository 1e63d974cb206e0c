use Rattle.std.proofs.Common.{◌≡◌}
use Rattle.run.specs.View.{view}
use Rattle.drag.specs.Scenes.{barred}
use Rattle.drag.proofs.bars.paint_bar.Given as goal

abbrev pub invariant-loop-row : goal.invariant-loop-row
invariant-loop-row g l = l.map ≡ barred (view g.G.Gas g.S.TwistSource l.run).width l.column l.kind l.row l.initial.map
