-- The law over logs, from the scene that a done `open` or `blank` leaves, for every log and after every line of it.
use Rattle.std.specs.Prelude.{◌≡◌, ℕ, ◌≤◌, List, map, length, take, Ok, Result}
use Rattle.lattice.specs.declared.vector.Vector.{Vector}
use Rattle.lattice.specs.Vectors.{added, negated}
use Rattle.book.specs.Accounts.{account_at}
use Rattle.dynamics.specs.Tunnels.{RunState, Tunnel, cells}
use Rattle.dynamics.specs.Balance.{particles_of, balance_of, taken}
use Rattle.faults.specs.declared.call.CallFault.{CallFault}
use Rattle.gas.specs.Laws.{GasLaws}
use Rattle.twist.specs.Model.{TwistLaws}
use Rattle.records.specs.Format.{Bytes}
use Rattle.records.specs.Files.{less}
use Rattle.calls.specs.Calls.{Blanked, Opened}
use Rattle.calls.specs.Logs.{Scene, tunnel_of, Line, marked, Holds, Log, calls_of, seen_of}
use Rattle.calls.specs.Plain.{fed}

-- by how much account n has grown from one tunnel to another
abbrev pub growth : Tunnel → Tunnel → ℕ → Vector
growth before after n = added (taken (account_at after.run.book n)) (negated (taken (account_at before.run.book n)))

-- what a log keeps: the particles; momentum plus all wall accounts less the fan's; and its step count, map, field and book are those of the plain
-- tunnel that was fed the same calls, so that each account has grown by exactly its due, its growth there
pub record Kept (x : Scene) (ls : List Line) (y : Scene) : Type 0 where
  pub particles : particles_of (tunnel_of y) ≡ particles_of (tunnel_of x)
  pub balance : balance_of (tunnel_of y) ≡ balance_of (tunnel_of x)
  pub steps : y.run.steps ≡ (fed (calls_of ls) (tunnel_of x)).run.steps
  pub map_is : (tunnel_of y).map ≡ (fed (calls_of ls) (tunnel_of x)).map
  pub field_is : (tunnel_of y).field ≡ (fed (calls_of ls) (tunnel_of x)).field
  pub dues : (n : ℕ) → growth (tunnel_of x) (tunnel_of y) n ≡ growth (tunnel_of x) (fed (calls_of ls) (tunnel_of x)) n
  -- and all else of the state with them
  pub plain : tunnel_of y ≡ fed (calls_of ls) (tunnel_of x)

-- two scenes that no list of calls can tell apart: equal calls, with buffers of equal lengths, are seen to do the same
abbrev pub Alike : Scene → Scene → Type 0
Alike x y = (ls qs : List Line) (x' y' : Scene) → Log x ls x' → Log y qs y' → calls_of ls ≡ calls_of qs → map seen_of ls ≡ map seen_of qs

-- a run of the same make, whatever it held, with map and field that are long enough, opens the bytes that a done mark wrote, and then is like the first
pub record Reopens (z : Scene) (file : List ℕ) : Type 0 where
  pub opens : (s : RunState) (map₂ field₂ : List ℕ) → s.gas ≡ z.run.gas → s.twist ≡ z.run.twist → cells z.run ≤ length map₂ → cells z.run ≤ length field₂
      → (r : Result (Unit {0}) CallFault) (s' : RunState) (map' field' : List ℕ) → Opened s file map₂ field₂ r s' map' field'
      → (r ≡ Ok tt) × Alike z (record { run = s'; map = map'; field = field' })

-- the law: whatever lines follow, they keep what is kept; and every mark that was done reopens
pub record LogLaw (x : Scene) : Type 0 where
  pub keeps : (ls : List Line) (y : Scene) → Log x ls y → Kept x ls y
  pub reopens : (ls : List Line) (y : Scene) → Log x ls y
      → (m f n : ℕ) (out out' : List ℕ) (z : Scene) → Holds (marked m f out out' (Ok n)) y z → Reopens z (take n out')

-- a mark straight after an `open`, both done, returns the file less its skippable records
abbrev pub MarksBack : List ℕ → Scene → Type 0
MarksBack file x = (m f n : ℕ) (out out' : List ℕ) (z : Scene) → Holds (marked m f out out' (Ok n)) x z → take n out' ≡ less file

-- line one is a done `open` or `blank`, on a run of any gas and any source
abbrev pub OpenBegins : Type 0
OpenBegins = (s : RunState) → GasLaws s.gas → TwistLaws s.twist → (file map₁ field₁ : List ℕ) → Bytes file → (s' : RunState) (map' field' : List ℕ)
    → Opened s file map₁ field₁ (Ok tt) s' map' field'
    → LogLaw (record { run = s'; map = map'; field = field' }) × MarksBack file (record { run = s'; map = map'; field = field' })

abbrev pub BlankBegins : Type 0
BlankBegins = (s : RunState) → GasLaws s.gas → TwistLaws s.twist → (w h : ℕ) (map₁ field₁ : List ℕ) (s' : RunState) (map' field' : List ℕ)
    → Blanked s w h map₁ field₁ (Ok tt) s' map' field'
    → LogLaw (record { run = s'; map = map'; field = field' })

abbrev pub LawOverLogs : Type 0
LawOverLogs = OpenBegins × BlankBegins
