-- The state that a gas and the other parts of a run stand for, over what the gas and the source mean.
use Rattle.gas.specs.declared.Gas as Gas
use Rattle.twist.specs.declared.TwistSource as Twist
use Rattle.dynamics.specs.Tunnels.{RunState}
use Rattle.dynamics.specs.declared.state.State.{State}

abbrev pub state_of : {G S : Type 0} (g : Gas.Ghosts G) (s : Twist.Ghosts S) → G → State S → RunState
state_of g s gas r = record {
  gas = g.model gas;
  entries = g.entries gas;
  twist = s.model r.source;
  mark = s.mark r.source;
  width = r.grid.width;
  height = r.grid.height;
  period = r.period;
  steps = r.steps;
  book = r.book.accounts;
}
