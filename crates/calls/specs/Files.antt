-- A file opens exactly if it is records in order whose payloads keep the rules for the run's gas and source, and map and field are long enough;
-- the run, the map and the field are then those that the payloads say.
use Rattle.std.specs.Prelude.{◌≡◌, ℕ, ◌≤◌, List, length, Ok, Result}
use Rattle.faults.specs.declared.call.CallFault.{CallFault}
use Rattle.dynamics.specs.Tunnels.{RunState}
use Rattle.step.specs.Results.{over}
use Rattle.records.specs.Files.{Rec, IsFile}
use Rattle.records.specs.Layout.{numbered}
use Rattle.records.specs.Walk.{largest_file}
use Rattle.job.specs.Jobs.{bytes_at, cells_in, run_in}
use Rattle.job.specs.Keeps.{Keeps}

-- the file is these records, they keep the rules, and the buffers have room
pub record Suits (s : RunState) (file map field : List ℕ) (rs : List Rec) : Type 0 where
  pub layout : IsFile largest_file file rs
  pub rules : Keeps s.gas s.twist (numbered rs)
  pub map_room : cells_in (numbered rs) ≤ length map
  pub field_room : cells_in (numbered rs) ≤ length field

-- run, map and field are those of the records
pub record Says (s : RunState) (map field : List ℕ) (rs : List Rec) (s' : RunState) (map' field' : List ℕ) : Type 0 where
  pub run : s' ≡ run_in s.gas s.twist (numbered rs)
  pub map_is : map' ≡ over (bytes_at 2 (numbered rs)) map
  pub field_is : field' ≡ over (bytes_at 3 (numbered rs)) field

pub record Opens (s : RunState) (file map field : List ℕ) (r : Result (Unit {0}) CallFault) (s' : RunState) (map' field' : List ℕ) : Type 0 where
  pub done : r ≡ Ok tt → (rs : List Rec) × Suits s file map field rs × Says s map field rs s' map' field'
  pub suits : (rs : List Rec) → Suits s file map field rs → (r ≡ Ok tt) × Says s map field rs s' map' field'
