use Rattle.std.proofs.Common.{◌≡◌, ℕ, ◌<◌, get_or}
use Rattle.drag.specs.Scenes.{gas_at}
use Rattle.drag.proofs.bars.fill.Given as goal

abbrev pub invariant-loop-cell : goal.invariant-loop-cell
invariant-loop-cell l = (i : ℕ) → i < l.cell → get_or l.field i 0 ≡ gas_at i
