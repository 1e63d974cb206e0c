-- A call put to a run, its map, its field and one other buffer, of whose front the spare or the output is handed over: it is the line of a log.
use Rattle.std.specs.Prelude.{◌≡◌, ℕ, List, take, drop, Result}
use Rattle.lattice.specs.declared.vector.Vector.{Vector as Account}
use Rattle.faults.specs.declared.call.CallFault.{CallFault}
use Rattle.calls.specs.declared.call.Call.{Call}
use Rattle.calls.specs.declared.call.Call.TheVariants.{Advance, Paint, Fan, Report, Account as AccountOf, Mark}
use Rattle.calls.specs.declared.call.Outcome.{Outcome}
use Rattle.calls.specs.declared.call.Outcome.TheVariants.{Advanced, Painted, Fanned, Reported, Told, Marked}
use Rattle.calls.specs.Logs.{Scene, advanced, painted, fanned, reported, told, marked, Holds}

-- the outcome of a call, the scenes and the other buffer before and after it
abbrev pub Performed : Call → Outcome → Scene → List ℕ → Scene → List ℕ → Type 0
Performed (Advance k m f n) o x other y other' =
    (r : Result ℕ CallFault) × (o ≡ Advanced r) × Holds (advanced k m f (take n other) (take n other') r) x y × (drop n other' ≡ drop n other)
Performed (Paint column row kind m) o x other y other' =
    (r : Result (Unit {0}) CallFault) × (o ≡ Painted r) × Holds (painted column row kind m r) x y × (other' ≡ other)
Performed (Fan period) o x other y other' = (r : Result (Unit {0}) CallFault) × (o ≡ Fanned r) × Holds (fanned period r) x y × (other' ≡ other)
Performed (Report b f n) o x other y other' =
    (r : Result ℕ CallFault) × (o ≡ Reported r) × Holds (reported b f (take n other) (take n other') r) x y × (drop n other' ≡ drop n other)
Performed (AccountOf n) o x other y other' = (r : Result Account CallFault) × (o ≡ Told r) × Holds (told n r) x y × (other' ≡ other)
Performed (Mark m f n) o x other y other' =
    (r : Result ℕ CallFault) × (o ≡ Marked r) × Holds (marked m f (take n other) (take n other') r) x y × (drop n other' ≡ drop n other)
