-- The grounds on which a payload is refused, by rising number; the first that holds is the fault.
use Rattle.std.specs.Prelude.{ℕ, ◌*◌, Bool, cond, not, ltb, List, length, Some, None, Ok, Err, Option, Result, ◌==◌, nat_le, nat_lt, position, unsigned_abs}
use Rattle.lattice.specs.declared.fault.GridFault.{GridFault}
use Rattle.lattice.specs.declared.fault.GridFault.TheVariants as grids
use Rattle.lattice.specs.Grids.{judged}
use Rattle.lattice.specs.Firsts.{first}
use Rattle.gas.specs.Model.{GasModel, states}
use Rattle.gas.specs.Judging.{first_unsound}
use Rattle.twist.specs.Model.{TwistModel}
use Rattle.faults.specs.declared.job.JobFault.{JobFault}
use Rattle.faults.specs.declared.job.JobFault.TheVariants.{Length, GasKind, TwistKind, Width, Height, Area, Period, Steps, Mark, Entry, MapByte, FieldByte, Account}
use Rattle.book.specs.Accounts.{accounts, most_push}
use Rattle.dynamics.specs.Roles.{highest_map_byte}
use Rattle.job.specs.declared.head.Head.{Head}
use Rattle.job.specs.Heads.{head_length, head_of}
use Rattle.job.specs.Books.{book_length, number_of}

-- the first of two faults
abbrev pub or_then : Option JobFault → Option JobFault → Option JobFault
or_then (Some f) later = Some f
or_then None later = later

abbrev pub fault_if : Bool → JobFault → Option JobFault
fault_if holds f = cond holds (Some f) None

-- a fault that names an offset
abbrev pub fault_at : (ℕ → JobFault) → Option ℕ → Option JobFault
fault_at f None = None
fault_at f (Some offset) = Some (f offset)

-- a payload of record r that has not this length
abbrev pub length_fault : ℕ → ℕ → List ℕ → Option JobFault
length_fault r n bytes = fault_if (not (length bytes == n)) (Length r)

-- a head's kinds are the run's
abbrev pub kinds_fault : GasModel → TwistModel → ℕ → Head → Option JobFault
kinds_fault gas twist r h =
    or_then (fault_if (not (h.gas == gas.kind)) (GasKind r)) (fault_if (not (h.twist == twist.kind)) (TwistKind r))

abbrev pub grid_fault : ℕ → Result (Unit {0}) GridFault → Option JobFault
grid_fault r (Ok x) = None
grid_fault r (Err grids.Width) = Some (Width r)
grid_fault r (Err grids.Height) = Some (Height r)
grid_fault r (Err grids.Area) = Some (Area r)

abbrev pub longest_period : ℕ
longest_period = 999

abbrev pub step_limit : ℕ
step_limit = 1000000000

-- its grid is lawful, and period and step count lie in their ranges
abbrev pub limits_fault : ℕ → Head → Option JobFault
limits_fault r h =
    or_then (grid_fault r (judged h.width h.height))
    (or_then (fault_if (nat_lt longest_period h.period) (Period r)) (fault_if (nat_lt step_limit h.steps) (Steps r)))

-- its mark is lawful
abbrev pub mark_fault : TwistModel → ℕ → Head → Option JobFault
mark_fault twist r h = fault_if (not (twist.lawful h.mark)) (Mark r)

-- the head: sixteen bytes that suit the run and keep the limits
abbrev pub head_fault : GasModel → TwistModel → ℕ → List ℕ → Option JobFault
head_fault gas twist r bytes =
    or_then (length_fault r head_length bytes)
    (or_then (kinds_fault gas twist r (head_of bytes)) (or_then (limits_fault r (head_of bytes)) (mark_fault twist r (head_of bytes))))

-- the rules: two entries for each state, each of them sound
abbrev pub rules_fault : GasModel → ℕ → List ℕ → Option JobFault
rules_fault gas r bytes = or_then (length_fault r (2 * states gas) bytes) (fault_at (Entry r) (first_unsound gas bytes))

-- the first byte above a limit, and the first from a limit on
abbrev pub first_above : ℕ → List ℕ → Option ℕ
first_above limit bytes = position (λ b. ltb limit b) bytes

abbrev pub first_from : ℕ → List ℕ → Option ℕ
first_from limit bytes = position (λ b. nat_le limit b) bytes

-- the map: a byte for each cell, none above the highest
abbrev pub map_fault : ℕ → ℕ → List ℕ → Option JobFault
map_fault cells r bytes = or_then (length_fault r cells bytes) (fault_at (MapByte r) (first_above highest_map_byte bytes))

-- the field: a state for each cell
abbrev pub field_fault : GasModel → ℕ → ℕ → List ℕ → Option JobFault
field_fault gas cells r bytes = or_then (length_fault r cells bytes) (fault_at (FieldByte r) (first_from (states gas) bytes))

-- the book: two numbers for each account, within their range after so many steps
abbrev pub book_fault : ℕ → ℕ → List ℕ → Option JobFault
book_fault steps r bytes =
    or_then (length_fault r book_length bytes)
    (fault_at (λ i. Account r (8 * i)) (first (2 * accounts) (λ i. ltb (most_push * steps) (unsigned_abs (number_of bytes i)))))

-- the end record: nothing
abbrev pub end_fault : ℕ → List ℕ → Option JobFault
end_fault r bytes = length_fault r 0 bytes
