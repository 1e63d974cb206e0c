-- The state that a run stands for, over what its gas and its source mean.
use Rattle.gas.specs.declared.Gas as Gas
use Rattle.twist.specs.declared.TwistSource as Twist
use Rattle.std.specs.Prelude.{ℕ, List}
use Rattle.dynamics.specs.Tunnels.{RunState}
use Rattle.dynamics.specs.States.{state_of}
use Rattle.calls.specs.Logs.{Scene}
use Rattle.run.specs.declared.run.Run.{Run}

abbrev pub view : {G S : Type 0} (g : Gas.Ghosts G) (s : Twist.Ghosts S) → Run G S g s → RunState
view g s r = state_of g s r.gas r.state

-- a run's state with its map and its field
abbrev pub scene_in : RunState → List ℕ → List ℕ → Scene
scene_in s map field = record { run = s; map = map; field = field }
