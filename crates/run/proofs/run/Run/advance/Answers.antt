use Rattle.std.proofs.Common.{◌≡◌, ℕ, ◌+◌, ◌≤◌, true, List, Some, None, Ok, Err, Option, Result, sym, ap, ◌∙◌, subst, arith}
use Rattle.std.proofs.lemmas.Result.{err_from_is_err_and}
use Rattle.faults.specs.declared.call.CallFault.{CallFault}
use Rattle.lattice.proofs.Cells.{lawful_grid}
use Rattle.book.specs.Accounts.{book_fits}
use Rattle.book.proofs.Ranges.{fits_at, fits_all}
use Rattle.dynamics.specs.Tunnels.{RunState}
use Rattle.dynamics.specs.Pushes.{after_steps}
use Rattle.dynamics.specs.Soundness.{SoundRun, SoundTunnel}
use Rattle.dynamics.proofs.Whole.{steps_keep}
use Rattle.step.specs.Scenes.{scene_of}
use Rattle.step.specs.Results.{over}
use Rattle.step.specs.Taken.{spare_after}
use Rattle.step.proofs.Again.{same}
use Rattle.run.specs.declared.run.Run.{Run}
use Rattle.run.specs.View.{view}
use Rattle.calls.specs.Grounds.{advance_fault}
use Rattle.calls.specs.Outcomes.{reply, leaves}
use Rattle.calls.proofs.NoFaults.{reply-none, reply_some, allowed}
use Rattle.calls.proofs.Sound.{sound_scene}
use Rattle.run.proofs.run.Run.advance.Given as given
use Rattle.run.proofs.run.Run.advance.Goals as goal

-- a run and the buffers of an advance that no ground refuses make a sound tunnel
sound_advance : (g : given.Over) (run : Run _ _ g.G.Gas g.S.TwistSource) (k : ℕ) (map field spare : List ℕ) → advance_fault (view g.G.Gas g.S.TwistSource run) k map field spare ≡ None
    → SoundTunnel (scene_of (view g.G.Gas g.S.TwistSource run) map field)
sound_advance g run k map field spare unfaulted =
    let s = view g.G.Gas g.S.TwistSource run in
    let ok = allowed s k map field spare unfaulted in
    let sound : SoundRun s = record {
      gas = g.met.G.Gas.lawful run.gas;
      entries = g.met.G.Gas.sound run.gas;
      twist = g.met.S.TwistSource.lawful run.state.source;
      mark = g.met.S.TwistSource.marked run.state.source;
      grid = lawful_grid run.state.grid;
      book_long = run.state.book.full;
      book = λ n l. fits_at run.state.steps run.state.book.accounts run.ranged n (omega (arith, run.state.book.full));
    } in
    sound_scene s sound map field ok.map_long ok.field_long ok.map_in ok.field_in

pub returns-in_err-judge_advance : goal.returns-in_err-judge_advance
returns-in_err-judge_advance g c =
    let s = view g.G.Gas g.S.TwistSource c.args.self.now in
    let k = c.args.k in
    let map = c.args.map.now in
    let field = c.args.field.now in
    let spare = c.args.spare.now in
    let fault = c.in_err-judge_advance.field-0.0 in
    let told = err_from_is_err_and c.from_residual.result c.from_residual.ensures.1 in
    let held : advance_fault s k map field spare ≡ Some fault = reply_some fault (advance_fault s k map field spare) tt c.in_err-judge_advance.ensures in
    let t = scene_of s map field in
    record {
      answer = told.1 ∙ ap {B = Result ℕ CallFault} Err told.2 ∙ ap (λ (o : Option CallFault). reply o (s.steps + k)) (sym held);
      run = ap (λ (o : Option CallFault). leaves o s (after_steps k t).run) (sym held);
      field_is = ap (λ (o : Option CallFault). leaves o field (over (after_steps k t).field field)) (sym held);
      spare_is = ap (λ (o : Option CallFault). leaves o spare (spare_after k t spare)) (sym held);
    }

pub take_steps-requires : goal.take_steps-requires
take_steps-requires g c =
    let s = view g.G.Gas g.S.TwistSource c.args.self.now in
    let map = c.args.map.now in
    let field = c.args.field.now in
    let spare = c.args.spare.now in
    let unfaulted = reply-none (advance_fault s c.args.k map field spare) tt tt c.in_ok-judge_advance.ensures in
    let ok = allowed s c.args.k map field spare unfaulted in
    record { sound = sound_advance g c.args.self.now c.args.k map field spare unfaulted; spare = ok.spare_long; steps = ok.few }

pub invariant_of-self : goal.invariant_of-self
invariant_of-self g c =
    let run = c.args.self.now in
    let s = view g.G.Gas g.S.TwistSource run in
    let k = c.args.k in
    let map = c.args.map.now in
    let field = c.args.field.now in
    let spare = c.args.spare.now in
    let unfaulted = reply-none (advance_fault s k map field spare) tt tt c.in_ok-judge_advance.ensures in
    let t = scene_of s map field in
    let after = (after_steps k t).run in
    let kept = same k t in
    let sound = (steps_keep k t (sound_advance g run k map field spare unfaulted)).sound.run in
    let is = sym c.take_steps.ensures.run_is in
    let few : after.steps ≤ 1000000000 = subst (λ (n : ℕ). n ≤ 1000000000) (sym kept.steps) (allowed s k map field spare unfaulted).few in
    record {
      slow = subst (λ (r : RunState). r.period ≤ 999) is (subst (λ (n : ℕ). n ≤ 999) (sym kept.period) run.slow);
      few = subst (λ (r : RunState). r.steps ≤ 1000000000) is few;
      ranged = subst (λ (r : RunState). book_fits r.steps r.book ≡ true) is (fits_all after.steps after.book (λ n l. sound.book n (omega (arith, sound.book_long))));
    }

pub returns : goal.returns
returns g c =
    let s = view g.G.Gas g.S.TwistSource c.args.self.now in
    let k = c.args.k in
    let map = c.args.map.now in
    let field = c.args.field.now in
    let spare = c.args.spare.now in
    let unfaulted : advance_fault s k map field spare ≡ None = reply-none _ tt tt c.in_ok-judge_advance.ensures in
    let t = scene_of s map field in
    let taken = c.take_steps.ensures in
    let steps : c.take_steps.new.state.steps ≡ s.steps + k = ap (λ (r : RunState). r.steps) taken.run_is ∙ (same k t).steps in
    record {
      answer = ap Ok steps ∙ ap (λ (o : Option CallFault). reply o (s.steps + k)) (sym unfaulted);
      run = taken.run_is ∙ ap (λ (o : Option CallFault). leaves o s (after_steps k t).run) (sym unfaulted);
      field_is = taken.field_is ∙ ap (λ (o : Option CallFault). leaves o field (over (after_steps k t).field field)) (sym unfaulted);
      spare_is = taken.spare_is ∙ ap (λ (o : Option CallFault). leaves o spare (spare_after k t spare)) (sym unfaulted);
    }
