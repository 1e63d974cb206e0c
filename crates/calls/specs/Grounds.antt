-- The grounds on which a call is refused, in the order of judgement: the buffers' lengths, the bytes of map and field, the arguments, the
-- step count. The first that holds is the fault.
use Rattle.std.specs.Prelude.{ℕ, ◌+◌, ◌*◌, ◌%◌, Bool, cond, not, ◌&&◌, ltb, leb, List, length, Some, None, Ok, Err, Option, Result, ◌==◌, nat_le, nat_lt, slice_index}
use Rattle.lattice.specs.declared.fault.GridFault.{GridFault}
use Rattle.lattice.specs.declared.fault.GridFault.TheVariants.{Width, Height, Area}
use Rattle.lattice.specs.Firsts.{first}
use Rattle.lattice.specs.Grids as grids
use Rattle.gas.specs.Model.{states}
use Rattle.faults.specs.declared.job.JobFault.{JobFault}
use Rattle.faults.specs.declared.job.JobFault.TheVariants as jobs
use Rattle.faults.specs.declared.call.CallFault.{CallFault}
use Rattle.faults.specs.declared.call.CallFault.TheVariants.{Job, ShortMap, ShortField, ShortSpare, MapByte, FieldByte, Argument, TooManySteps, ShortOutput}
use Rattle.dynamics.specs.Roles.{highest_map_byte}
use Rattle.dynamics.specs.Tunnels.{RunState, cells}
use Rattle.encode.specs.Encodings.{file_length}
use Rattle.report.specs.Reports.{snapshot, report_text}
use Rattle.job.specs.Jobs.{job_fault, parts_of, cells_in}

-- the first of two faults
abbrev pub or_then : Option CallFault → Option CallFault → Option CallFault
or_then (Some f) later = Some f
or_then None later = later

abbrev pub fault_if : Bool → CallFault → Option CallFault
fault_if holds f = cond holds (Some f) None

-- a fault that names a place
abbrev pub fault_at : (ℕ → CallFault) → Option ℕ → Option CallFault
fault_at f None = None
fault_at f (Some place) = Some (f place)

-- a fault of the job layer comes up whole
abbrev pub raised : Option JobFault → Option CallFault
raised None = None
raised (Some f) = Some (Job f)

-- width and height, with the first record for the place
abbrev pub grid_fault : Result (Unit {0}) GridFault → Option CallFault
grid_fault (Ok x) = None
grid_fault (Err Width) = Some (Job (jobs.Width 0))
grid_fault (Err Height) = Some (Job (jobs.Height 0))
grid_fault (Err Area) = Some (Job (jobs.Area 0))

-- a map byte above the highest, and a field byte that is no state, among the first n
abbrev pub map_fault : ℕ → List ℕ → Option CallFault
map_fault n map = fault_at MapByte (first n (λ i. ltb highest_map_byte (slice_index map i)))

abbrev pub field_fault : ℕ → ℕ → List ℕ → Option CallFault
field_fault n states field = fault_at FieldByte (first n (λ i. leb states (slice_index field i)))

abbrev pub most_steps : ℕ
most_steps = 65535

abbrev pub step_limit : ℕ
step_limit = 1000000000

abbrev pub longest_period : ℕ
longest_period = 999

-- `blank` (width, height)
abbrev pub blank_fault : ℕ → ℕ → List ℕ → List ℕ → Option CallFault
blank_fault w h map field =
    or_then (grid_fault (grids.judged w h))
    (or_then (fault_if (nat_lt (length map) (w * h)) ShortMap)
    (fault_if (nat_lt (length field) (w * h)) ShortField))

-- `open` (file): the file for this gas and this source, and then the buffers by the file's grid
abbrev pub open_fault : RunState → List ℕ → List ℕ → List ℕ → Option CallFault
open_fault s file map field =
    or_then (raised (job_fault s.gas s.twist file))
    (or_then (fault_if (nat_lt (length map) (cells_in (parts_of file))) ShortMap)
    (fault_if (nat_lt (length field) (cells_in (parts_of file))) ShortField))

-- `paint` (column, row, kind)
abbrev pub paint_fault : RunState → ℕ → ℕ → ℕ → List ℕ → Option CallFault
paint_fault s column row kind map =
    or_then (fault_if (nat_lt (length map) (cells s)) ShortMap)
    (or_then (map_fault (cells s) map)
    (or_then (fault_if (nat_le s.width column) (Argument 1))
    (or_then (fault_if (nat_le s.height row) (Argument 2))
    (fault_if (nat_lt highest_map_byte kind) (Argument 3)))))

-- `fan` (period)
abbrev pub fan_fault : ℕ → Option CallFault
fan_fault period = fault_if (nat_lt longest_period period) (Argument 1)

-- `account` (n)
abbrev pub account_fault : ℕ → Option CallFault
account_fault n = or_then (fault_if (n == 0) (Argument 1)) (fault_if (nat_lt 16 n) (Argument 1))

-- `advance` (k)
abbrev pub advance_fault : RunState → ℕ → List ℕ → List ℕ → List ℕ → Option CallFault
advance_fault s k map field spare =
    or_then (fault_if (nat_lt (length map) (cells s)) ShortMap)
    (or_then (fault_if (nat_lt (length field) (cells s)) ShortField)
    (or_then (fault_if (nat_lt (length spare) (cells s)) ShortSpare)
    (or_then (map_fault (cells s) map)
    (or_then (field_fault (cells s) (states s.gas) field)
    (or_then (fault_if (k == 0) (Argument 1))
    (or_then (fault_if (nat_lt most_steps k) (Argument 1))
    (fault_if (nat_lt step_limit (s.steps + k)) TooManySteps)))))))

-- the widest patch of a report
abbrev pub widest_patch : ℕ
widest_patch = 64

-- whether patches of b × b cells cover the grid: b is 1 to 64 and divides width and height
abbrev pub patch_fits : RunState → ℕ → Bool
patch_fits s b = nat_le 1 b && (nat_le b widest_patch && (s.width % b == 0 && s.height % b == 0))

-- `report` (b), before its text is measured
abbrev pub patch_fault : RunState → ℕ → List ℕ → Option CallFault
patch_fault s b field =
    or_then (fault_if (nat_lt (length field) (cells s)) ShortField)
    (or_then (field_fault (cells s) (states s.gas) field) (fault_if (not (patch_fits s b)) (Argument 1)))

-- `report` (b)
abbrev pub report_fault : RunState → ℕ → List ℕ → List ℕ → Option CallFault
report_fault s b field out =
    or_then (patch_fault s b field) (fault_if (nat_lt (length out) (length (report_text (snapshot s field) b))) ShortOutput)

-- `mark`: the buffers, their bytes, and the output by the length of the file
abbrev pub mark_fault : RunState → List ℕ → List ℕ → List ℕ → Option CallFault
mark_fault s map field out =
    or_then (fault_if (nat_lt (length map) (cells s)) ShortMap)
    (or_then (fault_if (nat_lt (length field) (cells s)) ShortField)
    (or_then (map_fault (cells s) map)
    (or_then (field_fault (cells s) (states s.gas) field) (fault_if (nat_lt (length out) (file_length s.gas (cells s))) ShortOutput))))
