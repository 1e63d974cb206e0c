-- A done `open` and a done `blank` leave storable scenes, so the law holds from there.
use Rattle.std.proofs.Common.{◌≡◌, ℕ, ◌*◌, ◌<◌, ◌≤◌, true, length, take, replicate, None, Ok, Err, Option, Result, sym, refl, ap, ◌∙◌, subst, arith, pow_pos}
use Rattle.std.proofs.lemmas.List.{length-replicate, get_or-replicate}
use Rattle.lattice.specs.declared.fault.GridFault.{GridFault}
use Rattle.lattice.specs.declared.fault.GridFault.TheVariants.{Width, Height, Area}
use Rattle.lattice.specs.Grids.{Lawful}
use Rattle.gas.specs.Model.{GasModel, states}
use Rattle.gas.specs.Laws.{GasLaws}
use Rattle.twist.specs.Model.{TwistModel, TwistLaws}
use Rattle.lattice.specs.declared.vector.Vector.{Vector as Account}
use Rattle.book.specs.Accounts.{accounts, none, account_fits}
use Rattle.dynamics.specs.Roles.{highest_map_byte}
use Rattle.dynamics.specs.Tunnels.{Tunnel, cells}
use Rattle.step.specs.Scenes.{scene_of}
use Rattle.step.specs.Results.{over}
use Rattle.job.proofs.Keeping.{judged_lawful}
use Rattle.encode.specs.Encodings.{file_of, file_length}
use Rattle.codec.specs.Storable.{Storable}
use Rattle.codec.proofs.Files.{read_writes_back}
use Rattle.faults.specs.declared.call.CallFault.{CallFault}
use Rattle.calls.specs.declared.call.Call.TheVariants.{Mark}
use Rattle.calls.specs.Grounds.{grid_fault, blank_fault}
use Rattle.calls.specs.Outcomes.{leaves}
use Rattle.calls.specs.Calls.{blank_run}
use Rattle.calls.specs.Logs.{Scene, marked}
use Rattle.calls.specs.Plain.{ground_of}
use Rattle.calls.specs.Law.{OpenBegins, BlankBegins}
use Rattle.calls.proofs.NoFaults.{none-parts, reply-none}
use Rattle.calls.proofs.Openings.{opens}
use Rattle.calls.proofs.Unfaulted.{take-front}
use Rattle.calls.proofs.Following.{follows}
use Rattle.calls.proofs.Lawful.{said_scene, mark_file, lawful}

-- open
pub open_begins : OpenBegins
open_begins s gas twist file map₁ field₁ bytes s' map' field' o =
    let x : Scene = record { run = s'; map = map'; field = field' } in
    let found = (opens s file map₁ field₁ (Ok tt) s' map' field' bytes o).done refl in
    let rs = found.0 in
    let fits = found.1 in
    let back = read_writes_back s.gas s.twist file rs gas twist fits.layout fits.rules in
    let scene = said_scene s map₁ field₁ rs s' map' field' fits.rules found.2 in
    let good : Storable (scene_of s' map' field') = subst Storable (sym scene) back.0 in (
      lawful x good,
      λ m f n out out' z h.
          mark_file (scene_of s' map' field') m f (file_length s'.gas (cells s')) n (take n out') (ground_of (scene_of s' map' field') (Mark m f (length out))) (follows (marked m f out out' (Ok n)) x z good h).seen
          ∙ ap file_of scene ∙ back.1,
    )

-- blank
grid_fine : (j : Result (Unit {0}) GridFault) → grid_fault j ≡ None → j ≡ Ok tt
grid_fine (Ok tt) e = refl
grid_fine (Err Width) e = absurd (let z : ◌≡◌ {A = ℕ} 0 1 = cc in omega arith)
grid_fine (Err Height) e = absurd (let z : ◌≡◌ {A = ℕ} 0 1 = cc in omega arith)
grid_fine (Err Area) e = absurd (let z : ◌≡◌ {A = ℕ} 0 1 = cc in omega arith)

-- a tunnel of nothing
blank_tunnel : GasModel → TwistModel → ℕ → ℕ → Tunnel
blank_tunnel gas twist w h = record { run = blank_run gas twist w h; map = replicate (w * h) 0; field = replicate (w * h) 0 }

blank_storable : (gas : GasModel) (twist : TwistModel) (w h : ℕ) → GasLaws gas → TwistLaws twist → Lawful w h → Storable (blank_tunnel gas twist w h)
unfolding blank_tunnel
blank_storable gas twist w h lawful-gas lawful-twist grid = record {
  sound = record {
    run = record {
      gas = lawful-gas;
      entries = lawful-gas.house_sound;
      twist = lawful-twist;
      mark = lawful-twist.first_lawful;
      grid = grid;
      book_long = length-replicate accounts none;
      book = λ k l. subst (λ (a : Account). account_fits 0 a ≡ true) (sym (get_or-replicate accounts k none none l)) refl;
    };
    map_long = length-replicate (w * h) 0;
    map = λ i l. subst (λ (b : ℕ). b ≤ highest_map_byte) (sym (get_or-replicate (w * h) i 0 0 l)) (omega arith);
    field_long = length-replicate (w * h) 0;
    field = λ i l. subst (λ (b : ℕ). b < states gas) (sym (get_or-replicate (w * h) i 0 0 l)) (pow_pos gas.channels);
  };
  period = omega arith;
  steps = omega arith;
}

pub blank_begins : BlankBegins
unfolding blank_tunnel
blank_begins s gas twist w h map₁ field₁ s' map' field' b =
    let none = reply-none (blank_fault w h map₁ field₁) tt tt b.answer in
    let grid = judged_lawful w h (grid_fine _ (none-parts _ _ none).0) in
    let zeros = replicate (w * h) 0 in
    let run_is : s' ≡ blank_run s.gas s.twist w h = b.run ∙ ap (λ (o : Option CallFault). leaves o s (blank_run s.gas s.twist w h)) none in
    let map_is : map' ≡ over zeros map₁ = b.map_is ∙ ap (λ (o : Option CallFault). leaves o map₁ (over zeros map₁)) none in
    let field_is : field' ≡ over zeros field₁ = b.field_is ∙ ap (λ (o : Option CallFault). leaves o field₁ (over zeros field₁)) none in
    let scene : scene_of s' map' field' ≡ blank_tunnel s.gas s.twist w h =
    (λ j. scene_of (run_is j) (map_is j) (field_is j))
    ∙ (λ j. record { run = blank_run s.gas s.twist w h; map = take-front (w * h) zeros map₁ (length-replicate (w * h) 0) j; field = take-front (w * h) zeros field₁ (length-replicate (w * h) 0) j }) in
    lawful (record { run = s'; map = map'; field = field' }) (subst Storable (sym scene) (blank_storable s.gas s.twist w h gas twist grid))
