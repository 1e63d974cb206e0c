use Rattle.std.proofs.Common.{◌≡◌}
use Rattle.lattice.specs.States.{momentum}
use Rattle.gas.proofs.Gas.momentum.Given as goal

abbrev pub invariant-loop-channel : goal.invariant-loop-channel
invariant-loop-channel g l = l.momentum ≡ momentum l.channel (g.Self.Gas.model l.self).vector l.state
