-- What each call answers, and what it leaves of the run and of each buffer.
use Rattle.std.specs.Prelude.{◌≡◌, ℕ, ◌+◌, ◌*◌, List, length, replicate, Result, slice_set}
use Rattle.lattice.specs.Grids.{cell_at}
use Rattle.gas.specs.Model.{GasModel}
use Rattle.twist.specs.Model.{TwistModel}
use Rattle.lattice.specs.declared.vector.Vector.{Vector as Account}
use Rattle.book.specs.Accounts.{accounts, none, account_at}
use Rattle.faults.specs.declared.call.CallFault.{CallFault}
use Rattle.dynamics.specs.Tunnels.{RunState, cells}
use Rattle.dynamics.specs.Pushes.{after_steps}
use Rattle.step.specs.Scenes.{scene_of}
use Rattle.step.specs.Results.{over}
use Rattle.step.specs.Taken.{spare_after}
use Rattle.encode.specs.Encodings.{file_of, file_length}
use Rattle.report.specs.Reports.{snapshot, report_text}
use Rattle.job.specs.Jobs.{parts_of, bytes_at, run_in}
use Rattle.calls.specs.Grounds.{open_fault, blank_fault, paint_fault, fan_fault, account_fault, advance_fault, report_fault, mark_fault}
use Rattle.calls.specs.Outcomes.{reply, leaves}

-- a run with house rules, the first twist mark, period 0, step 0 and a book of zeros
abbrev pub blank_run : GasModel → TwistModel → ℕ → ℕ → RunState
blank_run gas twist w h = record {
  gas = gas;
  entries = gas.house;
  twist = twist;
  mark = twist.first;
  width = w;
  height = h;
  period = 0;
  steps = 0;
  book = replicate accounts none;
}

-- `blank` makes map and field all 0
pub record Blanked (s : RunState) (w h : ℕ) (map field : List ℕ) (r : Result (Unit {0}) CallFault) (s' : RunState) (map' field' : List ℕ) : Type 0 where
  pub answer : r ≡ reply (blank_fault w h map field) tt
  pub run : s' ≡ leaves (blank_fault w h map field) s (blank_run s.gas s.twist w h)
  pub map_is : map' ≡ leaves (blank_fault w h map field) map (over (replicate (w * h) 0) map)
  pub field_is : field' ≡ leaves (blank_fault w h map field) field (over (replicate (w * h) 0) field)

-- `open` makes run, map and field those that the file says
pub record Opened (s : RunState) (file map field : List ℕ) (r : Result (Unit {0}) CallFault) (s' : RunState) (map' field' : List ℕ) : Type 0 where
  pub answer : r ≡ reply (open_fault s file map field) tt
  pub run : s' ≡ leaves (open_fault s file map field) s (run_in s.gas s.twist (parts_of file))
  pub map_is : map' ≡ leaves (open_fault s file map field) map (over (bytes_at 2 (parts_of file)) map)
  pub field_is : field' ≡ leaves (open_fault s file map field) field (over (bytes_at 3 (parts_of file)) field)

-- `paint` sets a map byte
pub record Painted (s : RunState) (column row kind : ℕ) (map : List ℕ) (r : Result (Unit {0}) CallFault) (s' : RunState) (map' : List ℕ) : Type 0 where
  pub answer : r ≡ reply (paint_fault s column row kind map) tt
  pub run : s' ≡ s
  pub map_is : map' ≡ leaves (paint_fault s column row kind map) map (slice_set map (cell_at s.width column row) kind)

-- the run with another period
abbrev pub with_period : RunState → ℕ → RunState
with_period s period = record {
  gas = s.gas;
  entries = s.entries;
  twist = s.twist;
  mark = s.mark;
  width = s.width;
  height = s.height;
  period = period;
  steps = s.steps;
  book = s.book;
}

-- `fan` sets the period
pub record Fanned (s : RunState) (period : ℕ) (r : Result (Unit {0}) CallFault) (s' : RunState) : Type 0 where
  pub answer : r ≡ reply (fan_fault period) tt
  pub run : s' ≡ leaves (fan_fault period) s (with_period s period)

-- `account` answers an account
pub record Told (s : RunState) (n : ℕ) (r : Result Account CallFault) (s' : RunState) : Type 0 where
  pub answer : r ≡ reply (account_fault n) (account_at s.book n)
  pub run : s' ≡ s

-- `advance` takes k steps and answers the step count
pub record Advanced (s : RunState) (k : ℕ) (map field spare : List ℕ) (r : Result ℕ CallFault) (s' : RunState) (field' spare' : List ℕ) : Type 0 where
  pub answer : r ≡ reply (advance_fault s k map field spare) (s.steps + k)
  pub run : s' ≡ leaves (advance_fault s k map field spare) s (after_steps k (scene_of s map field)).run
  pub field_is : field' ≡ leaves (advance_fault s k map field spare) field (over (after_steps k (scene_of s map field)).field field)
  pub spare_is : spare' ≡ leaves (advance_fault s k map field spare) spare (spare_after k (scene_of s map field) spare)

-- `report` writes the text of a field in patches of b × b cells, and answers its length
pub record Reported (s : RunState) (b : ℕ) (field out : List ℕ) (r : Result ℕ CallFault) (s' : RunState) (out' : List ℕ) : Type 0 where
  pub answer : r ≡ reply (report_fault s b field out) (length (report_text (snapshot s field) b))
  pub run : s' ≡ s
  pub out_is : out' ≡ leaves (report_fault s b field out) out (over (report_text (snapshot s field) b) out)

-- `mark` writes the run's file, with map and field, and answers its length
pub record Marked (s : RunState) (map field out : List ℕ) (r : Result ℕ CallFault) (s' : RunState) (out' : List ℕ) : Type 0 where
  pub answer : r ≡ reply (mark_fault s map field out) (file_length s.gas (cells s))
  pub run : s' ≡ s
  pub out_is : out' ≡ leaves (mark_fault s map field out) out (over (file_of (scene_of s map field)) out)
