-- A row of the collision, cell by cell, from the mark that the source has when the row begins.
use Rattle.std.specs.Prelude.{◌≡◌, ℕ, ◌+◌, ◌*◌, ◌<◌, ◌≤◌, Bool, ◌&&◌, List, slice_index}
use Rattle.lattice.specs.Sums.{count_n}
use Rattle.gas.specs.Model.{GasModel, outcome}
use Rattle.dynamics.specs.declared.role.Role.{Role}
use Rattle.dynamics.specs.Roles.{role_of, is_fan}
use Rattle.dynamics.specs.Cells.{can_turn, collision}
use Rattle.dynamics.specs.Step.{fan_acts, mark_at}
use Rattle.dynamics.specs.Tunnels.{RunState}
use Rattle.step.specs.declared.cell.Collided.{Collided}

-- whether the fan turns a particle of the state s in a cell with this role, under this twist
abbrev pub turns : GasModel → List ℕ → Bool → Bool → Role → ℕ → Bool
turns g entries acts twist role s = is_fan role && (acts && can_turn g (outcome g entries twist s))

-- what a cell's collision leaves
abbrev pub cell_after : GasModel → List ℕ → Bool → Bool → Role → ℕ → Collided
cell_after g entries acts twist role s = record { state = collision g entries acts twist role s; turned = turns g entries acts twist role s }

-- column c of a row, from the mark that the run has when the row begins
abbrev pub cell_in : RunState → ℕ → List ℕ → List ℕ → ℕ → Collided
cell_in s row map field c =
    cell_after s.gas s.entries (fan_acts s.period s.steps) (s.twist.bit (mark_at s.twist s.mark c) s.steps c row)
    (role_of (slice_index map (row * s.width + c))) (slice_index field (row * s.width + c))

-- a run whose source was asked n times more
abbrev pub asked : ℕ → RunState → RunState
asked n s = record {
  gas = s.gas;
  entries = s.entries;
  twist = s.twist;
  mark = mark_at s.twist s.mark n;
  width = s.width;
  height = s.height;
  period = s.period;
  steps = s.steps;
  book = s.book;
}

pub record RowCollided (w : ℕ) (cell : ℕ → Collided) (before after : List ℕ) (count : ℕ) : Type 0 where
  pub row : (c : ℕ) → c < w → slice_index after c ≡ (cell c).state
  pub rest : (k : ℕ) → w ≤ k → slice_index after k ≡ slice_index before k
  pub turned : count ≡ count_n w (λ c. (cell c).turned)
