-- The places below this one are made.
use Rattle.std.proofs.Common.{ℕ, ◌<◌, length, get_or}
use Rattle.lattice.specs.Grids.{onward, backward}
use Rattle.lattice.proofs.ring.fill_ring.Given as goal

abbrev pub invariant-loop-place : goal.invariant-loop-place
invariant-loop-place g l =
    (k : ℕ) → k < l.place → goal.F-post g l.made (backward (length l.fn.ring) k) k (onward (length l.fn.ring) k) (get_or l.ring k 0)
