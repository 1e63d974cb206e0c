-- The tunnel that a step works on: a run, and the cells' bytes.
use Rattle.std.specs.Prelude.{ℕ, List, take}
use Rattle.dynamics.specs.Tunnels.{RunState, Tunnel, cells}

-- the first bytes of the buffers are the cells'
abbrev pub scene_of : RunState → List ℕ → List ℕ → Tunnel
scene_of run map field = record { run = run; map = take (cells run) map; field = take (cells run) field }
