-- What an outcome answers and what it leaves in the output buffer: a report is written over its first bytes and its length is the answer; a refusal
-- leaves the buffer as it was.
use Rattle.std.specs.Prelude.{◌≡◌, ℕ, ◌≤◌, List, length, Ok, Err, Result}
use Rattle.faults.specs.declared.call.CallFault.{CallFault}
use Rattle.lattice.specs.Grids.{most_cells}
use Rattle.step.specs.Results.{over}
use Rattle.pairing.specs.Jobs.{longest_report}

-- what a job is handed: buffers for the largest grid, and an output as long as the longest report
pub record Workable (map field spare out : List ℕ) : Type 0 where
  pub map_room : most_cells ≤ length map
  pub field_room : most_cells ≤ length field
  pub spare_room : most_cells ≤ length spare
  pub out_size : length out ≡ longest_report

abbrev pub length_of : Result (List ℕ) CallFault → Result ℕ CallFault
length_of (Ok text) = Ok (length text)
length_of (Err f) = Err f

abbrev pub out_after : Result (List ℕ) CallFault → List ℕ → List ℕ
out_after (Ok text) out = over text out
out_after (Err f) out = out

pub record Made (outcome : Result (List ℕ) CallFault) (out : List ℕ) (r : Result ℕ CallFault) (out' : List ℕ) : Type 0 where
  pub answer : r ≡ length_of outcome
  pub out_is : out' ≡ out_after outcome out
