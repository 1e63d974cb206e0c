-- The law over logs, from a storable scene: by induction over the lines, and for marks by the round trip of the file.
use Rattle.std.proofs.Common.{◌≡◌, ℕ, ◌≤◌, List, [], ◌∷◌, map, length, take, Some, None, Ok, Option, Result, sym, refl, ap, ◌∙◌, subst, arith}
use Rattle.gas.specs.Model.{GasModel}
use Rattle.twist.specs.Model.{TwistModel}
use Rattle.dynamics.specs.Tunnels.{RunState, Tunnel, cells}
use Rattle.dynamics.specs.Balance.{particles_of, balance_of}
use Rattle.step.specs.Scenes.{scene_of}
use Rattle.records.specs.Format.{Bytes}
use Rattle.records.specs.Files.{Rec}
use Rattle.records.specs.Layout.{numbered}
use Rattle.records.proofs.Headers.{laid_bytes}
use Rattle.job.specs.Jobs.{cells_in, bytes_at, run_in, tunnel_in}
use Rattle.job.specs.Keeps.{Keeps}
use Rattle.encode.specs.Encodings.{file_of, file_length, records_of}
use Rattle.codec.specs.Storable.{Storable}
use Rattle.codec.proofs.Tunnels.{written_reads_back}
use Rattle.faults.specs.declared.call.CallFault.{CallFault}
use Rattle.calls.specs.declared.call.Call.{Call}
use Rattle.calls.specs.declared.call.Call.TheVariants.{Mark}
use Rattle.calls.specs.Outcomes.{reply, leaves}
use Rattle.calls.specs.Calls.{Opened}
use Rattle.calls.specs.Files.{Says}
use Rattle.calls.specs.Logs.{Scene, tunnel_of, Line, marked, Holds, Log, call_of, calls_of, Seen, written, seen_of}
use Rattle.calls.specs.Plain.{ground_of, fed_one, fed, shows}
use Rattle.calls.specs.Law.{growth, Kept, Alike, Reopens, LogLaw}
use Rattle.calls.proofs.Openings.{opens}
use Rattle.calls.proofs.Unfaulted.{take-front}
use Rattle.calls.proofs.Feeding.{feeds}
use Rattle.calls.proofs.Following.{follows}

-- the scene after a line is storable again
storable_after : (l : Line) (x y : Scene) → Storable (tunnel_of x) → Holds l x y → Storable (tunnel_of y)
storable_after l x y good h = subst Storable (sym (follows l x y good h).tunnel) (feeds (call_of l) (tunnel_of x) good).storable

-- what a log leaves
record Ends (x : Scene) (ls : List Line) (y : Scene) : Type 0 where
  storable : Storable (tunnel_of y)
  plain : tunnel_of y ≡ fed (calls_of ls) (tunnel_of x)
  particles : particles_of (tunnel_of y) ≡ particles_of (tunnel_of x)
  balance : balance_of (tunnel_of y) ≡ balance_of (tunnel_of x)

ends : (ls : List Line) (x y : Scene) → Storable (tunnel_of x) → Log x ls y → Ends x ls y
ends [] x y good e = record {
  storable = subst (λ (z : Scene). Storable (tunnel_of z)) (sym e) good;
  plain = ap tunnel_of e;
  particles = ap (λ (z : Scene). particles_of (tunnel_of z)) e;
  balance = ap (λ (z : Scene). balance_of (tunnel_of z)) e;
}
ends (l ∷ ls) x y good log =
    let z = log.0 in
    let line = follows l x z good log.1 in
    let fine = feeds (call_of l) (tunnel_of x) good in
    let rest = ends ls z y (storable_after l x z good log.1) log.2 in
    record {
      storable = rest.storable;
      plain = rest.plain ∙ ap (fed (calls_of ls)) line.tunnel;
      particles = rest.particles ∙ ap particles_of line.tunnel ∙ fine.particles;
      balance = rest.balance ∙ ap balance_of line.tunnel ∙ fine.balance;
    }

kept : (ls : List Line) (x y : Scene) → Storable (tunnel_of x) → Log x ls y → Kept x ls y
kept ls x y good log =
    let e = ends ls x y good log in
    record {
      particles = e.particles;
      balance = e.balance;
      steps = ap (λ (t : Tunnel). t.run.steps) e.plain;
      map_is = ap (λ (t : Tunnel). t.map) e.plain;
      field_is = ap (λ (t : Tunnel). t.field) e.plain;
      dues = λ n. ap (λ (t : Tunnel). growth (tunnel_of x) t n) e.plain;
      plain = e.plain;
    }

-- what the plain tunnel shows at each call of a list
shown : List Call → Tunnel → List Seen
shown [] t = []
shown (c ∷ cs) t = shows t c ∷ shown cs (fed_one c t)

seen_all : (ls : List Line) (x y : Scene) → Storable (tunnel_of x) → Log x ls y → map seen_of ls ≡ shown (calls_of ls) (tunnel_of x)
unfolding shown
seen_all [] x y good log = refl
seen_all (l ∷ ls) x y good log =
    let z = log.0 in
    let line = follows l x z good log.1 in
    let rest = seen_all ls z y (storable_after l x z good log.1) log.2 ∙ ap (shown (calls_of ls)) line.tunnel in
    λ j. line.seen j ∷ rest j

-- scenes of one tunnel are alike
alike : (x y : Scene) → Storable (tunnel_of x) → tunnel_of y ≡ tunnel_of x → Alike x y
alike x y good e ls qs x' y' log qlog calls =
    seen_all ls x x' good log ∙ (λ j. shown (calls j) (sym e j)) ∙ sym (seen_all qs y y' (subst Storable (sym e) good) qlog)

-- the bytes of a done mark are the tunnel's file
pub mark_file : (t : Tunnel) (m f k n : ℕ) (bytes : List ℕ) (o : Option CallFault) → written (Ok n) bytes ≡ written (reply o k) (leaves o [] (file_of t)) → bytes ≡ file_of t
mark_file t m f k n bytes None e = cc
mark_file t m f k n bytes (Some fault) e = absurd (let z : ◌≡◌ {A = ℕ} 0 1 = cc in omega arith)

-- run, map and field that records say, as a scene
pub said_scene : (s : RunState) (map₂ field₂ : List ℕ) (rs : List Rec) (s' : RunState) (map' field' : List ℕ) → Keeps s.gas s.twist (numbered rs) → Says s map₂ field₂ rs s' map' field'
    → scene_of s' map' field' ≡ tunnel_in s.gas s.twist (numbered rs)
said_scene s map₂ field₂ rs s' map' field' rules says =
    let ps = numbered rs in
    (λ j. scene_of (says.run j) (says.map_is j) (says.field_is j))
    ∙ (λ j. record { run = run_in s.gas s.twist ps; map = take-front (cells_in ps) (bytes_at 2 ps) map₂ rules.map.long j; field = take-front (cells_in ps) (bytes_at 3 ps) field₂ rules.field.long j })

-- a tunnel's file opens in a run of the same make to that very tunnel
reopened : (t : Tunnel) → Storable t → (s : RunState) (map₂ field₂ : List ℕ) → s.gas ≡ t.run.gas → s.twist ≡ t.run.twist → cells t.run ≤ length map₂ → cells t.run ≤ length field₂
    → (r : Result (Unit {0}) CallFault) (s' : RunState) (map' field' : List ℕ) → Opened s (file_of t) map₂ field₂ r s' map' field' → (r ≡ Ok tt) × (scene_of s' map' field' ≡ t)
reopened t good s map₂ field₂ gases twists map_room field_room r s' map' field' o =
    let back = written_reads_back t good in
    let rs = records_of t in
    let rules : Keeps s.gas s.twist (numbered rs) = subst (λ (w : TwistModel). Keeps s.gas w (numbered rs)) (sym twists) (subst (λ (w : GasModel). Keeps w t.run.twist (numbered rs)) (sym gases) back.rules) in
    let cells_is : cells_in (numbered rs) ≡ cells t.run = ap (λ (w : Tunnel). cells w.run) back.says in
    let bytes : Bytes (file_of t) = subst Bytes (sym back.layout.joins) (laid_bytes rs back.layout.fine) in
    let done = (opens s (file_of t) map₂ field₂ r s' map' field' bytes o).suits rs (record {
      layout = back.layout;
      rules = rules;
      map_room = omega (arith, cells_is);
      field_room = omega (arith, cells_is);
    }) in
    (done.0, said_scene s map₂ field₂ rs s' map' field' rules done.1 ∙ (λ j. tunnel_in (gases j) (twists j) (numbered rs)) ∙ back.says)

-- so a done mark reopens
reopens : (m f n : ℕ) (out out' : List ℕ) (y z : Scene) → Storable (tunnel_of y) → Holds (marked m f out out' (Ok n)) y z → Reopens z (take n out')
reopens m f n out out' y z good h =
    let line = follows (marked m f out out' (Ok n)) y z good h in
    let file : take n out' ≡ file_of (tunnel_of y) = mark_file (tunnel_of y) m f (file_length y.run.gas (cells y.run)) n (take n out') (ground_of (tunnel_of y) (Mark m f (length out))) line.seen in
    let same : tunnel_of z ≡ tunnel_of y = λ j. scene_of (h.0.run j) (h.1 j) (h.2 j) in
    let fine : Storable (tunnel_of z) = subst Storable (sym same) good in
    record {
      opens = λ s map₂ field₂ gases twists map_room field_room r s' map' field' o.
          let back = reopened (tunnel_of z) fine s map₂ field₂ gases twists map_room field_room r s' map' field' (subst (λ (bytes : List ℕ). Opened s bytes map₂ field₂ r s' map' field') (file ∙ sym (ap file_of same)) o) in
          (back.0, alike z (record { run = s'; map = map'; field = field' }) fine back.1);
    }

-- the law, from any storable scene
pub lawful : (x : Scene) → Storable (tunnel_of x) → LogLaw x
lawful x good = record {
  keeps = λ ls y log. kept ls x y good log;
  reopens = λ ls y log m f n out out' z h. reopens m f n out out' y z (ends ls x y good log).storable h;
}
