-- A call that opens a file opens exactly what keeps the rules.
use Rattle.std.proofs.Common.{◌≡◌, ℕ, ◌≤◌, List, length, Some, None, Ok, Err, Option, Result, sym, refl, ap, ◌∙◌, subst, arith}
use Rattle.std.proofs.lemmas.Bool.{ltb-false, le-ltb}
use Rattle.faults.specs.declared.record.RecordFault.{RecordFault}
use Rattle.faults.specs.declared.job.JobFault.{JobFault}
use Rattle.faults.specs.declared.call.CallFault.{CallFault}
use Rattle.faults.specs.declared.call.CallFault.TheVariants.{ShortMap, ShortField}
use Rattle.gas.specs.Model.{GasModel}
use Rattle.twist.specs.Model.{TwistModel}
use Rattle.dynamics.specs.Tunnels.{RunState}
use Rattle.step.specs.Results.{over}
use Rattle.records.specs.declared.payloads.Places.{Places}
use Rattle.records.specs.Format.{Bytes}
use Rattle.records.specs.Files.{Rec, IsFile}
use Rattle.records.specs.Layout.{numbered}
use Rattle.records.specs.Walk.{walked, largest_file}
use Rattle.records.proofs.Layouts.{layout, file_done}
use Rattle.job.specs.Jobs.{job_fault, fault_in, parts_in, parts_of, cells_in, bytes_at, run_in}
use Rattle.job.specs.Keeps.{Keeps}
use Rattle.job.proofs.Keeping.{keeps, keeps_none}
use Rattle.calls.specs.Grounds.{or_then, fault_if, raised, open_fault}
use Rattle.calls.specs.Outcomes.{reply, leaves}
use Rattle.calls.specs.Calls.{Opened}
use Rattle.calls.specs.Files.{Says, Opens}
use Rattle.calls.proofs.NoFaults.{none-parts, not_if, reply-none}

pub not_raised : (o : Option JobFault) → raised o ≡ None → o ≡ None
not_raised None e = refl
not_raised (Some f) e = absurd (let z : ◌≡◌ {A = ℕ} 0 1 = cc in omega arith)

-- a file without a fault was walked
places_of : (gas : GasModel) (twist : TwistModel) (file : List ℕ) (w : Result Places RecordFault) → fault_in gas twist file w ≡ None → (p : Places) × (w ≡ Ok p)
places_of gas twist file (Ok p) e = (p, refl)
places_of gas twist file (Err f) e = absurd (let z : ◌≡◌ {A = ℕ} 0 1 = cc in omega arith)

-- so its parts keep the rules
pub file_rules : (gas : GasModel) (twist : TwistModel) (file : List ℕ) → job_fault gas twist file ≡ None → Keeps gas twist (parts_of file)
file_rules gas twist file e =
    let walks = places_of gas twist file (walked largest_file file) e in
    subst (Keeps gas twist) (sym (ap (parts_in file) walks.1)) (keeps gas twist _ (sym (ap (fault_in gas twist file) walks.1) ∙ e))

-- the records of a file without a fault, and that its parts are theirs
pub record Read (gas : GasModel) (twist : TwistModel) (file : List ℕ) (rs : List Rec) : Type 0 where
  pub layout : IsFile largest_file file rs
  pub rules : Keeps gas twist (numbered rs)
  pub same : parts_of file ≡ numbered rs

pub reads : (gas : GasModel) (twist : TwistModel) (file : List ℕ) → Bytes file → job_fault gas twist file ≡ None → (rs : List Rec) × Read gas twist file rs
reads gas twist file bytes e =
    let walks = places_of gas twist file (walked largest_file file) e in
    let found = (layout largest_file file (walked largest_file file) refl bytes).sound walks.0 walks.1 in
    let same : parts_of file ≡ numbered found.0 = ap (parts_in file) walks.1 ∙ found.1.same_parts in (
      found.0,
      record {
        layout = found.1.is_file;
        rules = subst (Keeps gas twist) found.1.same_parts (keeps gas twist _ (sym (ap (fault_in gas twist file) walks.1) ∙ e));
        same = same;
      },
    )

-- and the other way
pub no_fault : (gas : GasModel) (twist : TwistModel) (file : List ℕ) (rs : List Rec) → IsFile largest_file file rs → Keeps gas twist (numbered rs) → (job_fault gas twist file ≡ None) × (parts_of file ≡ numbered rs)
no_fault gas twist file rs is kept =
    let done = file_done largest_file file rs is in
    let same = done.2.same_parts in
    (ap (fault_in gas twist file) done.1 ∙ keeps_none gas twist _ (subst (Keeps gas twist) (sym same) kept), ap (parts_in file) done.1 ∙ same)

open_none : (s : RunState) (file map field : List ℕ) → job_fault s.gas s.twist file ≡ None → cells_in (parts_of file) ≤ length map → cells_in (parts_of file) ≤ length field → open_fault s file map field ≡ None
open_none s file map field e m f =
    λ j. or_then (raised (e j)) (or_then (fault_if (le-ltb _ _ m j) ShortMap) (fault_if (le-ltb _ _ f j) ShortField))

-- what a refused call leaves, and a done one
pub refused_open : (s : RunState) (file map field : List ℕ) (f : CallFault) (r : Result (Unit {0}) CallFault) → open_fault s file map field ≡ Some f → r ≡ Err f → Opened s file map field r s map field
refused_open s file map field f r held is = record {
  answer = is ∙ ap (λ (o : Option CallFault). reply o tt) (sym held);
  run = ap (λ (o : Option CallFault). leaves o s (run_in s.gas s.twist (parts_of file))) (sym held);
  map_is = ap (λ (o : Option CallFault). leaves o map (over (bytes_at 2 (parts_of file)) map)) (sym held);
  field_is = ap (λ (o : Option CallFault). leaves o field (over (bytes_at 3 (parts_of file)) field)) (sym held);
}

pub done_open : (s : RunState) (file map field : List ℕ) (s' : RunState) (map' field' : List ℕ) → open_fault s file map field ≡ None
    → s' ≡ run_in s.gas s.twist (parts_of file) → map' ≡ over (bytes_at 2 (parts_of file)) map → field' ≡ over (bytes_at 3 (parts_of file)) field
    → Opened s file map field (Ok tt) s' map' field'
done_open s file map field s' map' field' none run_is map_is field_is = record {
  answer = ap (λ (o : Option CallFault). reply o tt) (sym none);
  run = run_is ∙ ap (λ (o : Option CallFault). leaves o s (run_in s.gas s.twist (parts_of file))) (sym none);
  map_is = map_is ∙ ap (λ (o : Option CallFault). leaves o map (over (bytes_at 2 (parts_of file)) map)) (sym none);
  field_is = field_is ∙ ap (λ (o : Option CallFault). leaves o field (over (bytes_at 3 (parts_of file)) field)) (sym none);
}

-- what no ground refuses: no fault in the file, and room for its cells
pub record Room (s : RunState) (file map field : List ℕ) : Type 0 where
  pub faultless : job_fault s.gas s.twist file ≡ None
  pub map_room : cells_in (parts_of file) ≤ length map
  pub field_room : cells_in (parts_of file) ≤ length field

pub room : (s : RunState) (file map field : List ℕ) → open_fault s file map field ≡ None → Room s file map field
room s file map field none =
    let p = none-parts _ _ none in
    let q = none-parts _ _ p.1 in
    record { faultless = not_raised _ p.0; map_room = ltb-false _ _ (not_if _ ShortMap q.0); field_room = ltb-false _ _ (not_if _ ShortField q.1) }

says : (s : RunState) (file map field : List ℕ) (rs : List Rec) (r : Result (Unit {0}) CallFault) (s' : RunState) (map' field' : List ℕ) → open_fault s file map field ≡ None → parts_of file ≡ numbered rs
    → Opened s file map field r s' map' field' → Says s map field rs s' map' field'
says s file map field rs r s' map' field' none same o = record {
  run = o.run ∙ ap (λ (x : Option CallFault). leaves x s (run_in s.gas s.twist (parts_of file))) none ∙ ap (run_in s.gas s.twist) same;
  map_is = o.map_is ∙ ap (λ (x : Option CallFault). leaves x map (over (bytes_at 2 (parts_of file)) map)) none ∙ ap (λ (ps : List (ℕ × List ℕ)). over (bytes_at 2 ps) map) same;
  field_is = o.field_is ∙ ap (λ (x : Option CallFault). leaves x field (over (bytes_at 3 (parts_of file)) field)) none ∙ ap (λ (ps : List (ℕ × List ℕ)). over (bytes_at 3 ps) field) same;
}

pub opens : (s : RunState) (file map field : List ℕ) (r : Result (Unit {0}) CallFault) (s' : RunState) (map' field' : List ℕ) → Bytes file
    → Opened s file map field r s' map' field' → Opens s file map field r s' map' field'
opens s file map field r s' map' field' bytes o = record {
  done = λ ok.
      let none = reply-none (open_fault s file map field) tt tt (sym ok ∙ o.answer) in
      let held = room s file map field none in
      let found = reads s.gas s.twist file bytes held.faultless in
      let rs = found.0 in
      let same = found.1.same in (
        rs,
        record {
          layout = found.1.layout;
          rules = found.1.rules;
          map_room = subst (λ (ps : List (ℕ × List ℕ)). cells_in ps ≤ length map) same held.map_room;
          field_room = subst (λ (ps : List (ℕ × List ℕ)). cells_in ps ≤ length field) same held.field_room;
        },
        says s file map field rs r s' map' field' none same o,
      );
  suits = λ rs fits.
      let read = no_fault s.gas s.twist file rs fits.layout fits.rules in
      let none = open_none s file map field read.0
      (subst (λ (ps : List (ℕ × List ℕ)). cells_in ps ≤ length map) (sym read.1) fits.map_room)
      (subst (λ (ps : List (ℕ × List ℕ)). cells_in ps ≤ length field) (sym read.1) fits.field_room) in
      (o.answer ∙ ap (λ (x : Option CallFault). reply x tt) none, says s file map field rs r s' map' field' none read.1 o);
}
