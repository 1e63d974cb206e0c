use Rattle.std.proofs.Common.{◌≡◌, ℕ, ◌<◌, true, false, get_or}
use Rattle.dynamics.specs.Roles.{role_of, is_wall_of}
use Rattle.step.proofs.settling.is_clear.Given as goal

abbrev pub invariant-loop-byte : goal.invariant-loop-byte
invariant-loop-byte l = l.clear ≡ true → (j : ℕ) → j < l.byte-index → (n : ℕ) → is_wall_of n (role_of (get_or l.walls j 0)) ≡ false
