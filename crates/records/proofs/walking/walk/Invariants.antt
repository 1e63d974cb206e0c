use Rattle.std.proofs.Common.{◌≡◌, ℕ, ◌-◌, ◌<◌, ◌≤◌, length}
use Rattle.records.specs.Walk.{largest_file, walked_from, walked}
use Rattle.records.proofs.walking.walk.Given as goal

-- from here, n turns answer what the whole file does
abbrev pub invariant-records : goal.invariant-records
invariant-records l = (l.c.at ≤ length l.file) × (l.c.count ≤ l.c.at) × (length l.file ≤ largest_file) × ((n : ℕ) × (length l.file - l.c.at < n) × (walked_from l.file n l.c ≡ walked largest_file l.file))

abbrev pub decreases-records : goal.decreases-records
decreases-records l = length l.file - l.c.at
