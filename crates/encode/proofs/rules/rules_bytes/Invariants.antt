use Rattle.std.proofs.Common.{◌≡◌, ℕ, ◌<◌, get_or}
use Rattle.encode.proofs.rules.rules_bytes.Given as goal

-- the first entries stand
abbrev pub invariant-loop-place : goal.invariant-loop-place
invariant-loop-place g l = (k : ℕ) → k < l.place → get_or l.rules k 0 ≡ get_or (g.G.Gas.entries l.gas) k 0
