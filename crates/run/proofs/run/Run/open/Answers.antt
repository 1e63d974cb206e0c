use Rattle.std.proofs.Common.{◌≡◌, ℕ, ◌<◌, ◌≤◌, List, length, None, Ok, Err, Result, sym, ap, ◌∙◌, subst, arith}
use Rattle.std.proofs.ByRecursion.{All-from_get_or}
use Rattle.std.proofs.lemmas.Result.{err_from_is_err_and}
use Rattle.faults.specs.declared.call.CallFault.{CallFault}
use Rattle.step.specs.Results.{over}
use Rattle.records.specs.Layout.{parts, payload_at}
use Rattle.job.specs.declared.jobs.Job.{Job}
use Rattle.job.specs.Jobs.{cells_in, bytes_at, parts_of}
use Rattle.job.specs.Keeps.{Keeps}
use Rattle.job.specs.Results.{IsJob}
use Rattle.job.proofs.Readings.{parts_found, file_keeps}
use Rattle.run.specs.View.{view}
use Rattle.calls.specs.Grounds.{open_fault}
use Rattle.calls.proofs.NoFaults.{judged-none, judged_made, judged_some}
use Rattle.calls.proofs.Beginnings.{open_begins}
use Rattle.calls.proofs.Openings.{Room, room, refused_open, done_open, opens}
use Rattle.run.proofs.run.Run.open.Given as given
use Rattle.run.proofs.run.Run.open.Goals as goal
use Rattle.run.proofs.run.Run.open.Goals.{In_ok-job}

not_done : (r : Result (Unit {0}) CallFault) (f : CallFault) → r ≡ Err f → r ≡ Ok tt → ⊥
not_done r f is ok = let z : ◌≡◌ {A = ℕ} 0 1 = cc in omega arith

-- the job that was judged, and that no ground refuses it
job_is : (g : given.Over) (c : In_ok-job g) → IsJob c.args.file.now c.in_ok-job.job
job_is g c = judged_made (IsJob _) _ _ c.in_ok-job.ensures

unfaulted : (g : given.Over) (c : In_ok-job g) → open_fault (view g.G.Gas g.S.TwistSource c.args.self.now) c.args.file.now c.args.map.now c.args.field.now ≡ None
unfaulted g c = judged-none (IsJob _) _ _ c.in_ok-job.ensures

roomy : (g : given.Over) (c : In_ok-job g) → Room (view g.G.Gas g.S.TwistSource c.args.self.now) c.args.file.now c.args.map.now c.args.field.now
roomy g c = room _ _ _ _ (unfaulted g c)

-- its payloads keep the rules
kept : (g : given.Over) (c : In_ok-job g) → Keeps (g.G.Gas.model c.args.self.now.gas) (g.S.TwistSource.model c.args.self.now.state.source) (parts c.args.file.now c.in_ok-job.job.places)
kept g c = file_keeps _ _ _ _ (job_is g c).places (roomy g c).faultless

-- and its parts are at its places
found : (g : given.Over) (c : In_ok-job g) → parts_of c.args.file.now ≡ parts c.args.file.now c.in_ok-job.job.places
found g c = parts_found _ _ (job_is g c).places

pub returns-in_err-job : goal.returns-in_err-job
returns-in_err-job g c =
    let s = view g.G.Gas g.S.TwistSource c.args.self.now in
    let file = c.args.file.now in
    let map = c.args.map.now in
    let field = c.args.field.now in
    let f = c.in_err-job.field-0.0 in
    let told = err_from_is_err_and c.from_residual.result c.from_residual.ensures.1 in
    let o = refused_open s file map field f c.from_residual.result (judged_some Job (IsJob file) _ f c.in_err-job.ensures) (told.1 ∙ ap {B = Result (Unit {0}) CallFault} Err told.2) in
    let is = told.1 in
    record {
      outcome = o;
      law = λ ok. absurd (not_done c.from_residual.result told.0 is ok);
      returns = λ ok. absurd (not_done c.from_residual.result told.0 is ok);
      exactly = opens s file map field _ s map field (All-from_get_or (λ b. b < 256) file 0 (λ i h. (c.type_inv.file i).fits)) o;
    }

-- the places lie inside the file
pub payload-requires : goal.payload-requires
payload-requires g c = (job_is g (goal.at.payload-requires g c).In_ok-job).inside.1.1.0

pub payload-requires-2 : goal.payload-requires-2
payload-requires-2 g c = (job_is g (goal.at.payload-requires-2 g c).In_ok-job).inside.1.1.1.0

-- and the payloads of map and field have as many bytes as there is room for
map-fits : (g : given.Over) (c : In_ok-job g) → length (payload_at c.args.file.now c.in_ok-job.job.places.map) ≤ length c.args.map.now
map-fits g c = subst (λ (n : ℕ). n ≤ length c.args.map.now) (ap cells_in (found g c) ∙ sym (kept g c).map.long) (roomy g c).map_room

field_fits : (g : given.Over) (c : In_ok-job g) → length (payload_at c.args.file.now c.in_ok-job.job.places.field) ≤ length c.args.field.now
field_fits g c = subst (λ (n : ℕ). n ≤ length c.args.field.now) (ap cells_in (found g c) ∙ sym (kept g c).field.long) (roomy g c).field_room

pub copy_over-requires : goal.copy_over-requires
copy_over-requires g c = subst (λ (bs : List ℕ). length bs ≤ length c.args.map.now) (sym c.payload.ensures) (map-fits g (goal.at.copy_over-requires g c).In_ok-job)

pub copy_over-requires-2 : goal.copy_over-requires-2
copy_over-requires-2 g c = subst (λ (bs : List ℕ). length bs ≤ length c.args.field.now) (sym c.payload-2.ensures) (field_fits g (goal.at.copy_over-requires-2 g c).In_ok-job)

pub take_job-requires : goal.take_job-requires
take_job-requires g c = let at = (goal.at.take_job-requires g c).In_ok-job in (job_is g at, (roomy g at).faultless)

pub returns : goal.returns
returns g c =
    let at = (goal.at.returns g c).In_ok-job in
    let s = view g.G.Gas g.S.TwistSource c.args.self.now in
    let file = c.args.file.now in
    let map = c.args.map.now in
    let field = c.args.field.now in
    let over-map = λ (bs : List ℕ). over bs map in
    let over-field = λ (bs : List ℕ). over bs field in
    let o = done_open s file map field _ _ _ (unfaulted g at) c.take_job.ensures
    (c.copy_over.ensures ∙ ap over-map (c.payload.ensures ∙ sym (ap (bytes_at 2) (found g at))))
    (c.copy_over-2.ensures ∙ ap over-field (c.payload-2.ensures ∙ sym (ap (bytes_at 3) (found g at)))) in
    let bytes = All-from_get_or (λ b. b < 256) file 0 (λ i h. (c.type_inv.file i).fits) in
    let begins = open_begins s (g.met.G.Gas.lawful c.args.self.now.gas) (g.met.S.TwistSource.lawful c.args.self.now.state.source) file map field bytes _ _ _ o in
    record { outcome = o; law = λ _. begins.0; returns = λ _. begins.1; exactly = opens s file map field _ _ _ _ bytes o }
