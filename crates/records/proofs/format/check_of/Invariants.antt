use Rattle.std.proofs.Common.{◌≡◌, ◌+◌, ◌%◌, ◌^◌, drop}
use Rattle.records.specs.Format.{weighed, check_of}
use Rattle.records.proofs.format.check_of.Given as goal

-- what is left gives the rest of the sum
abbrev pub invariant-loop-i : goal.invariant-loop-i
invariant-loop-i l = (l.sum + weighed l.i (drop l.i l.payload)) % 2 ^ 32 ≡ check_of l.payload
