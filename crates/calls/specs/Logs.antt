-- A log of calls on one run, one map and one field, which nothing else changes. A line is a call that was made, done or refused, with the buffers
-- that it was handed: of map and field their first so many bytes, of spare and output any contents.
use Rattle.std.specs.Prelude.{◌≡◌, ℕ, List, [], ◌∷◌, ◌++◌, map, length, take, drop, Ok, Err, Result}
use Rattle.lattice.specs.declared.vector.Vector.{Vector as Account}
use Rattle.dynamics.specs.Tunnels.{RunState, Tunnel}
use Rattle.step.specs.Scenes.{scene_of}
use Rattle.faults.specs.declared.call.CallFault.{CallFault}
use Rattle.calls.specs.declared.call.Call.{Call}
use Rattle.calls.specs.declared.call.Call.TheVariants.{Advance, Paint, Fan, Report, Account as AccountOf, Mark}
use Rattle.calls.specs.Calls.{Advanced, Painted, Fanned, Reported, Told, Marked}

-- a run with its map and its field, whatever their lengths
pub record Scene : Type 0 where
  pub run : RunState
  pub map : List ℕ
  pub field : List ℕ

-- the tunnel in it: the first bytes of map and field are the cells'
abbrev pub tunnel_of : Scene → Tunnel
tunnel_of x = scene_of x.run x.map x.field

-- a line: the call's arguments, the lengths of map and field that it was handed, the other buffer before and after, and the answer
pub data Line : Type 0 where
  advanced : (k map_length field_length : ℕ) (spare spare' : List ℕ) (r : Result ℕ CallFault) → Line
  painted : (column row kind map_length : ℕ) (r : Result (Unit {0}) CallFault) → Line
  fanned : (period : ℕ) (r : Result (Unit {0}) CallFault) → Line
  reported : (b field_length : ℕ) (out out' : List ℕ) (r : Result ℕ CallFault) → Line
  told : (n : ℕ) (r : Result Account CallFault) → Line
  marked : (map_length field_length : ℕ) (out out' : List ℕ) (r : Result ℕ CallFault) → Line

-- what the line says of the scene before it and the scene after it: the call's own contract, and that the rest of map and field stays
abbrev pub Holds : Line → Scene → Scene → Type 0
Holds (advanced k m f spare spare' r) x y =
    (field' : List ℕ)
    × Advanced x.run k (take m x.map) (take f x.field) spare r y.run field' spare'
    × (y.map ≡ x.map)
    × (y.field ≡ field' ++ drop f x.field)
Holds (painted column row kind m r) x y =
    (map' : List ℕ)
    × Painted x.run column row kind (take m x.map) r y.run map'
    × (y.map ≡ map' ++ drop m x.map)
    × (y.field ≡ x.field)
Holds (fanned period r) x y = Fanned x.run period r y.run × (y.map ≡ x.map) × (y.field ≡ x.field)
Holds (reported b f out out' r) x y = Reported x.run b (take f x.field) out r y.run out' × (y.map ≡ x.map) × (y.field ≡ x.field)
Holds (told n r) x y = Told x.run n r y.run × (y.map ≡ x.map) × (y.field ≡ x.field)
Holds (marked m f out out' r) x y = Marked x.run (take m x.map) (take f x.field) out r y.run out' × (y.map ≡ x.map) × (y.field ≡ x.field)

-- lines one after the other, each from the scene that the last left
abbrev pub Log : Scene → List Line → Scene → Type 0
Log x [] y = y ≡ x
Log x (l ∷ ls) y = (z : Scene) × Holds l x z × Log z ls y

-- the call of a line, with the lengths of its buffers: nothing of what was answered or written
abbrev pub call_of : Line → Call
call_of (advanced k m f spare spare' r) = Advance k m f (length spare)
call_of (painted column row kind m r) = Paint column row kind m
call_of (fanned period r) = Fan period
call_of (reported b f out out' r) = Report b f (length out)
call_of (told n r) = AccountOf n
call_of (marked m f out out' r) = Mark m f (length out)

abbrev pub calls_of : List Line → List Call
calls_of ls = map call_of ls

-- what a caller sees: the answer or the refusal, and of a report and a mark the bytes that were written
pub data Seen : Type 0 where
  plainly : Result (Unit {0}) CallFault → Seen
  counted : Result ℕ CallFault → Seen
  written : Result ℕ CallFault → List ℕ → Seen
  account : Result Account CallFault → Seen

-- the bytes that an answer counts, at the front of the output
abbrev pub front : Result ℕ CallFault → List ℕ → List ℕ
front (Ok n) out = take n out
front (Err f) out = []

abbrev pub seen_of : Line → Seen
seen_of (advanced k m f spare spare' r) = counted r
seen_of (painted column row kind m r) = plainly r
seen_of (fanned period r) = plainly r
seen_of (reported b f out out' r) = written r (front r out')
seen_of (told n r) = account r
seen_of (marked m f out out' r) = written r (front r out')
