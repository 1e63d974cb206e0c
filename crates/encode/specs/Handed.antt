-- The tunnel that is handed over: a gas, the state of a run, and the cells' bytes at the front of map and field.
use Rattle.std.specs.Prelude.{List, ℕ, take}
use Rattle.gas.specs.declared.Gas as Gas
use Rattle.twist.specs.declared.TwistSource as Twist
use Rattle.dynamics.specs.Tunnels.{RunState, Tunnel, cells}
use Rattle.dynamics.specs.States.{state_of}
use Rattle.encode.specs.declared.held.Held.{Held}

-- the first bytes of the buffers are the cells'
abbrev pub tunnel_from : RunState → List ℕ → List ℕ → Tunnel
tunnel_from run map field = record { run = run; map = take (cells run) map; field = take (cells run) field }

-- what the program holds, as such a tunnel
abbrev pub held : {G S : Type 0} → (g : Gas.Ghosts G) → (s : Twist.Ghosts S) → Held G S g s → Tunnel
held g s h = tunnel_from (state_of g s h.gas.now h.state.now) h.map.now h.field.now
