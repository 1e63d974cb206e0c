-- After k steps a run stands where the tunnel k steps on stands, so the next step goes on from there.
use Rattle.std.proofs.Common.{◌≡◌, ℕ, zero, suc, ◌+◌, ◌*◌, List, ◌++◌, length, take, drop, sym, refl, ap, ◌∙◌, subst, add-zero, add-suc, add-one, take-append-drop}
use Rattle.std.proofs.lemmas.List.{take_at, drop_at}
use Rattle.dynamics.specs.Tunnels.{RunState, Tunnel, cells}
use Rattle.dynamics.specs.Step.{collided}
use Rattle.dynamics.specs.Pushes.{stepped, after_steps}
use Rattle.dynamics.specs.Soundness.{SoundTunnel}
use Rattle.dynamics.proofs.Lists.{length-listed}
use Rattle.dynamics.proofs.Whole.{steps_keep}
use Rattle.step.specs.Scenes.{scene_of}
use Rattle.step.specs.Results.{over}
use Rattle.step.specs.Taken.{spare_after, Taken}

-- what no step changes, and the step count
pub record Same (k : ℕ) (t : Tunnel) : Type 0 where
  pub gas : (after_steps k t).run.gas ≡ t.run.gas
  pub entries : (after_steps k t).run.entries ≡ t.run.entries
  pub twist : (after_steps k t).run.twist ≡ t.run.twist
  pub width : (after_steps k t).run.width ≡ t.run.width
  pub height : (after_steps k t).run.height ≡ t.run.height
  pub period : (after_steps k t).run.period ≡ t.run.period
  pub steps : (after_steps k t).run.steps ≡ t.run.steps + k
  pub map : (after_steps k t).map ≡ t.map

pub same : (k : ℕ) (t : Tunnel) → Same k t
same zero t = record { gas = refl; entries = refl; twist = refl; width = refl; height = refl; period = refl; steps = sym (add-zero t.run.steps); map = refl }
same (suc k) t =
    let s = same k t in
    record {
      gas = s.gas;
      entries = s.entries;
      twist = s.twist;
      width = s.width;
      height = s.height;
      period = s.period;
      steps = ap (λ (n : ℕ). n + 1) s.steps ∙ add-one (t.run.steps + k) ∙ sym (add-suc t.run.steps k);
      map = s.map;
    }

-- a buffer that is overlaid twice
pub over-over : (xs ys buffer : List ℕ) → length xs ≡ length ys → over ys (over xs buffer) ≡ over ys buffer
over-over xs ys buffer e = ap (λ (b : List ℕ). ys ++ b) (drop_at xs (drop (length xs) buffer) (length ys) e ∙ ap (λ (n : ℕ). drop n buffer) e)

-- a buffer's own first bytes over itself
pub over_own : (n : ℕ) (buffer : List ℕ) → length (take n buffer) ≡ n → buffer ≡ over (take n buffer) buffer
over_own n buffer long = sym (take-append-drop n buffer) ∙ ap (λ (k : ℕ). take n buffer ++ drop k buffer) (sym long)

module _ (s : RunState) (map field : List ℕ) where
  abbrev whole : Tunnel
  whole = scene_of s map field

  -- the tunnel that step k + 1 is handed
  pub scene_again : SoundTunnel whole → (k : ℕ) (field' : List ℕ) (s' : RunState)
      → field' ≡ over (after_steps k whole).field field → s' ≡ (after_steps k whole).run → scene_of s' map field' ≡ after_steps k whole
  scene_again sound k field' s' fields runs =
      let kept = same k whole in
      let x = after_steps k whole in
      let size : cells x.run ≡ cells s = λ j. kept.width j * kept.height j in
      let size' : cells s' ≡ cells s = ap cells runs ∙ size in
      let long : length x.field ≡ cells s = (steps_keep k whole sound).sound.field_long ∙ size in
      let cut : take (cells s') field' ≡ x.field =
      ap (λ (n : ℕ). take n field') size' ∙ ap (take (cells s)) fields ∙ take_at x.field (drop (length x.field) field) (cells s) long in
      let walls : take (cells s') map ≡ x.map = ap (λ (n : ℕ). take n map) size' ∙ sym kept.map in
      λ j. record { run = runs j; map = walls j; field = cut j }

  -- one step more
  pub taken_more : SoundTunnel whole → (k : ℕ) (spare spare' spare'' field' field'' : List ℕ) (s' s'' : RunState)
      → Taken whole k field field' spare spare' s'
      → (let t = scene_of s' map field' in (field'' ≡ over (stepped t).field field') × (spare'' ≡ over (collided t) spare') × (s'' ≡ (stepped t).run))
      → Taken whole (k + 1) field field'' spare spare'' s''
  taken_more sound k spare spare' spare'' field' field'' s' s'' old new =
      let now = scene_again sound k field' s' old.field_is old.run_is in
      let long = (steps_keep k whole sound).sound.field_long in
      let fields : field'' ≡ over (after_steps (suc k) whole).field field =
      new.0 ∙ (λ j. over (stepped (now j)).field (old.field_is j))
      ∙ over-over (after_steps k whole).field (after_steps (suc k) whole).field field (long ∙ sym (length-listed (cells (after_steps k whole).run) _)) in
      let spares : spare'' ≡ spare_after (suc k) whole spare = new.1 ∙ (λ j. over (collided (now j)) (old.spare_is j)) ∙ spare_again k in
      subst (λ (n : ℕ). Taken whole n field field'' spare spare'' s'') (sym (add-one k))
      (record { field_is = fields; spare_is = spares; run_is = new.2 ∙ ap (λ (t : Tunnel). (stepped t).run) now })
    where
      spare_again : (k : ℕ) → over (collided (after_steps k whole)) (spare_after k whole spare) ≡ over (collided (after_steps k whole)) spare
      spare_again zero = refl
      spare_again (suc k) =
          over-over (collided (after_steps k whole)) (collided (after_steps (suc k) whole)) spare
          (length-listed (cells (after_steps k whole).run) _ ∙ sym (length-listed (cells (after_steps (suc k) whole).run) _))
