-- One step, cell by cell. The source is asked once for every cell, walls too, in the order of their numbers; each cell's state
-- becomes what its role makes of it; then each particle moves to the neighbour by its channel.
use Rattle.std.specs.Prelude.{ℕ, zero, suc, ◌%◌, Bool, not, ◌&&◌, List, ◌==◌, slice_index}
use Rattle.lattice.specs.Grids.{column_of, row_of}
use Rattle.gas.specs.Streaming.{arriving}
use Rattle.twist.specs.Model.{TwistModel}
use Rattle.dynamics.specs.declared.role.Role.{Role}
use Rattle.dynamics.specs.Roles.{role_of}
use Rattle.dynamics.specs.Cells.{collision}
use Rattle.dynamics.specs.Tunnels.{Tunnel, cells, listed}

-- the fan acts at step t if its period is not 0 and divides t
abbrev pub fan_acts : ℕ → ℕ → Bool
fan_acts period t = not (period == 0) && t % period == 0

-- the mark when cell i is asked for: each cell before it was asked for once
abbrev pub mark_at : TwistModel → ℕ → ℕ → ℕ
mark_at s m zero = m
mark_at s m (suc i) = s.next (mark_at s m i)

abbrev pub role_at : Tunnel → ℕ → Role
role_at t i = role_of (slice_index t.map i)

abbrev pub twist_at : Tunnel → ℕ → Bool
twist_at t i =
    t.run.twist.bit (mark_at t.run.twist t.run.mark i) t.run.steps (column_of t.run.width i) (row_of t.run.width i)

-- the state of cell i after the collision
abbrev pub collided_at : Tunnel → ℕ → ℕ
collided_at t i =
    collision t.run.gas t.run.entries (fan_acts t.run.period t.run.steps) (twist_at t i) (role_at t i) (slice_index t.field i)

-- the gas after the collision, and after its particles moved
abbrev pub collided : Tunnel → List ℕ
collided t = listed (cells t.run) (collided_at t)

abbrev pub streamed : Tunnel → List ℕ
streamed t = listed (cells t.run) (arriving t.run.gas t.run.width t.run.height (collided t))
