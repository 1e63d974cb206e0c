-- What a step adds to each account: to an obstacle's twice the momentum of the particles in its cells when the step began, to the
-- fan's twice the east vector for each particle that it turned. And the whole of a step.
use Rattle.std.specs.Prelude.{ℕ, zero, suc, ◌+◌, Bool, cond, ◌&&◌, List, pos, ◌==◌, slice_index, slice_index_or}
use Rattle.lattice.specs.declared.vector.Vector.{Vector}
use Rattle.lattice.specs.Sums.{count_n}
use Rattle.lattice.specs.Vectors.{sum_v, only_if, times}
use Rattle.gas.specs.Model.{momentum, outcome}
use Rattle.lattice.specs.declared.vector.Vector.{Vector as Account}
use Rattle.book.specs.Accounts.{accounts, fan_account, none, grown}
use Rattle.dynamics.specs.Roles.{is_wall_of, is_fan}
use Rattle.dynamics.specs.Cells.{east, can_turn}
use Rattle.dynamics.specs.Tunnels.{Tunnel, cells, listed}
use Rattle.dynamics.specs.Step.{fan_acts, mark_at, role_at, twist_at, streamed}

abbrev pub wall_push : Tunnel → ℕ → Vector
wall_push t n = times (pos 2) (sum_v (cells t.run) (λ i. only_if (is_wall_of n (role_at t i)) (momentum t.run.gas (slice_index t.field i))))

-- whether the fan turns a particle in cell i
abbrev pub turns_at : Tunnel → ℕ → Bool
turns_at t i =
    is_fan (role_at t i)
    && (fan_acts t.run.period t.run.steps && can_turn t.run.gas (outcome t.run.gas t.run.entries (twist_at t i) (slice_index t.field i)))

abbrev pub fan_push : Tunnel → Vector
fan_push t = times (pos 2) (times (pos (count_n (cells t.run) (turns_at t))) (t.run.gas.vector east))

-- the push on account n
abbrev pub push_on : Tunnel → ℕ → Vector
push_on t n = cond (n == fan_account) (fan_push t) (wall_push t n)

abbrev pub book_after : Tunnel → List Account
book_after t = listed accounts (λ k. grown (slice_index_or t.run.book k none) (push_on t (k + 1)))

-- the tunnel one step on
abbrev pub stepped : Tunnel → Tunnel
stepped t = record {
  run = record {
    gas = t.run.gas;
    entries = t.run.entries;
    twist = t.run.twist;
    mark = mark_at t.run.twist t.run.mark (cells t.run);
    width = t.run.width;
    height = t.run.height;
    period = t.run.period;
    steps = t.run.steps + 1;
    book = book_after t;
  };
  map = t.map;
  field = streamed t;
}

-- and k steps on
abbrev pub after_steps : ℕ → Tunnel → Tunnel
after_steps zero t = t
after_steps (suc k) t = stepped (after_steps k t)
