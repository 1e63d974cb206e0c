-- A file is a job for a run if its records stand in order and each payload, in file order, keeps its rules; then it says the state of a tunnel.
use Rattle.std.specs.Prelude.{ℕ, ◌*◌, List, [], Some, Ok, Err, Option, Result, slice_index_or}
use Rattle.gas.specs.Model.{GasModel}
use Rattle.twist.specs.Model.{TwistModel}
use Rattle.dynamics.specs.Tunnels.{RunState, Tunnel}
use Rattle.faults.specs.declared.record.RecordFault.{RecordFault}
use Rattle.faults.specs.declared.job.JobFault.{JobFault}
use Rattle.faults.specs.declared.job.JobFault.TheVariants.{Record}
use Rattle.records.specs.declared.payloads.Places.{Places}
use Rattle.records.specs.Layout.{parts}
use Rattle.records.specs.Walk.{walked, largest_file}
use Rattle.job.specs.declared.head.Head.{Head}
use Rattle.job.specs.Heads.{head_of}
use Rattle.job.specs.Books.{accounts_of}
use Rattle.job.specs.Grounds.{or_then, head_fault, rules_fault, map_fault, field_fault, book_fault, end_fault}

-- the number and the payload of the known record at this place of the order, from 0: head, rules, map, field, book, end
abbrev pub part_at : ℕ → List (ℕ × List ℕ) → ℕ × List ℕ
part_at k ps = slice_index_or ps k (0, [])

abbrev pub bytes_at : ℕ → List (ℕ × List ℕ) → List ℕ
bytes_at k ps = (part_at k ps).1

abbrev pub head_in : List (ℕ × List ℕ) → Head
head_in ps = head_of (bytes_at 0 ps)

abbrev pub cells_in : List (ℕ × List ℕ) → ℕ
cells_in ps = (head_in ps).width * (head_in ps).height

-- the payload at a place of the order put to a ground, with its record's number
abbrev pub put : (ℕ → List ℕ → Option JobFault) → ℕ × List ℕ → Option JobFault
put ground_of p = ground_of p.0 p.1

-- the payloads in file order
abbrev pub payloads_fault : GasModel → TwistModel → List (ℕ × List ℕ) → Option JobFault
payloads_fault gas twist ps =
    or_then (put (head_fault gas twist) (part_at 0 ps))
    (or_then (put (rules_fault gas) (part_at 1 ps))
    (or_then (put (map_fault (cells_in ps)) (part_at 2 ps))
    (or_then (put (field_fault gas (cells_in ps)) (part_at 3 ps))
    (or_then (put (book_fault (head_in ps).steps) (part_at 4 ps))
    (put end_fault (part_at 5 ps))))))

-- the records, and then the payloads
abbrev pub fault_in : GasModel → TwistModel → List ℕ → Result Places RecordFault → Option JobFault
fault_in gas twist file (Err f) = Some (Record f)
fault_in gas twist file (Ok p) = payloads_fault gas twist (parts file p)

abbrev pub job_fault : GasModel → TwistModel → List ℕ → Option JobFault
job_fault gas twist file = fault_in gas twist file (walked largest_file file)

-- the numbers and payloads of a file's known records
abbrev pub parts_in : List ℕ → Result Places RecordFault → List (ℕ × List ℕ)
parts_in file (Err f) = []
parts_in file (Ok p) = parts file p

abbrev pub parts_of : List ℕ → List (ℕ × List ℕ)
parts_of file = parts_in file (walked largest_file file)

-- the state of the run that payloads say
abbrev pub run_in : GasModel → TwistModel → List (ℕ × List ℕ) → RunState
run_in gas twist ps = record {
  gas = gas;
  entries = bytes_at 1 ps;
  twist = twist;
  mark = (head_in ps).mark;
  width = (head_in ps).width;
  height = (head_in ps).height;
  period = (head_in ps).period;
  steps = (head_in ps).steps;
  book = accounts_of (bytes_at 4 ps);
}

-- and that of the tunnel
abbrev pub tunnel_in : GasModel → TwistModel → List (ℕ × List ℕ) → Tunnel
tunnel_in gas twist ps = record { run = run_in gas twist ps; map = bytes_at 2 ps; field = bytes_at 3 ps }
