-- The plain tunnel: it is fed a log's calls, by their arguments and the lengths of their buffers, and never an answer or a refusal.
-- The bytes of its map and field are in range, so a call is refused for its lengths, its arguments or the step count alone; then nothing changes.
use Rattle.std.specs.Prelude.{ℕ, ◌+◌, not, List, [], ◌∷◌, length, Option, ◌==◌, nat_le, nat_lt, slice_set}
use Rattle.lattice.specs.Grids.{cell_at}
use Rattle.book.specs.Accounts.{account_at}
use Rattle.dynamics.specs.Tunnels.{Tunnel, cells}
use Rattle.dynamics.specs.Roles.{highest_map_byte}
use Rattle.dynamics.specs.Pushes.{after_steps}
use Rattle.encode.specs.Encodings.{file_of, file_length}
use Rattle.report.specs.Reports.{snapshot, report_text}
use Rattle.faults.specs.declared.call.CallFault.{CallFault}
use Rattle.faults.specs.declared.call.CallFault.TheVariants.{ShortMap, ShortField, ShortSpare, Argument, TooManySteps, ShortOutput}
use Rattle.calls.specs.declared.call.Call.{Call}
use Rattle.calls.specs.declared.call.Call.TheVariants.{Advance, Paint, Fan, Report, Account, Mark}
use Rattle.calls.specs.Grounds.{or_then, fault_if, most_steps, step_limit, fan_fault, account_fault, patch_fits}
use Rattle.calls.specs.Outcomes.{reply, leaves}
use Rattle.calls.specs.Calls.{with_period}
use Rattle.calls.specs.Logs.{Seen, plainly, counted, written, account}

abbrev pub cells_of : Tunnel → ℕ
cells_of t = cells t.run

-- the report of a tunnel in patches of b × b cells
abbrev pub text_of : Tunnel → ℕ → List ℕ
text_of t b = report_text (snapshot t.run t.field) b

-- the first ground on which a call is refused
abbrev pub ground_of : Tunnel → Call → Option CallFault
ground_of t (Advance k m f n) =
    or_then (fault_if (nat_lt m (cells_of t)) ShortMap)
    (or_then (fault_if (nat_lt f (cells_of t)) ShortField)
    (or_then (fault_if (nat_lt n (cells_of t)) ShortSpare)
    (or_then (fault_if (k == 0) (Argument 1))
    (or_then (fault_if (nat_lt most_steps k) (Argument 1))
    (fault_if (nat_lt step_limit (t.run.steps + k)) TooManySteps)))))
ground_of t (Paint column row kind m) =
    or_then (fault_if (nat_lt m (cells_of t)) ShortMap)
    (or_then (fault_if (nat_le t.run.width column) (Argument 1))
    (or_then (fault_if (nat_le t.run.height row) (Argument 2))
    (fault_if (nat_lt highest_map_byte kind) (Argument 3))))
ground_of t (Fan period) = fan_fault period
ground_of t (Report b f n) =
    or_then (fault_if (nat_lt f (cells_of t)) ShortField)
    (or_then (fault_if (not (patch_fits t.run b)) (Argument 1)) (fault_if (nat_lt n (length (text_of t b))) ShortOutput))
ground_of t (Account n) = account_fault n
ground_of t (Mark m f n) =
    or_then (fault_if (nat_lt m (cells_of t)) ShortMap)
    (or_then (fault_if (nat_lt f (cells_of t)) ShortField) (fault_if (nat_lt n (file_length t.run.gas (cells_of t))) ShortOutput))

-- the tunnel with another byte in its map, and with another period
abbrev pub repainted : Tunnel → ℕ → ℕ → Tunnel
repainted t i kind = record { run = t.run; map = slice_set t.map i kind; field = t.field }

abbrev pub refanned : Tunnel → ℕ → Tunnel
refanned t period = record { run = with_period t.run period; map = t.map; field = t.field }

-- what a call that is not refused makes of the tunnel
abbrev pub moved : Call → Tunnel → Tunnel
moved (Advance k m f n) t = after_steps k t
moved (Paint column row kind m) t = repainted t (cell_at t.run.width column row) kind
moved (Fan period) t = refanned t period
moved (Report b f n) t = t
moved (Account n) t = t
moved (Mark m f n) t = t

-- one call, and a list of them
abbrev pub fed_one : Call → Tunnel → Tunnel
fed_one c t = leaves (ground_of t c) t (moved c t)

abbrev pub fed : List Call → Tunnel → Tunnel
fed [] t = t
fed (c ∷ cs) t = fed cs (fed_one c t)

-- what its caller would see of a call
abbrev pub shows : Tunnel → Call → Seen
shows t (Advance k m f n) = counted (reply (ground_of t (Advance k m f n)) (t.run.steps + k))
shows t (Paint column row kind m) = plainly (reply (ground_of t (Paint column row kind m)) tt)
shows t (Fan period) = plainly (reply (ground_of t (Fan period)) tt)
shows t (Report b f n) = written (reply (ground_of t (Report b f n)) (length (text_of t b))) (leaves (ground_of t (Report b f n)) [] (text_of t b))
shows t (Account n) = account (reply (ground_of t (Account n)) (account_at t.run.book n))
shows t (Mark m f n) = written (reply (ground_of t (Mark m f n)) (file_length t.run.gas (cells_of t))) (leaves (ground_of t (Mark m f n)) [] (file_of t))
