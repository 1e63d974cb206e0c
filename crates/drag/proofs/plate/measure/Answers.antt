use Rattle.std.proofs.Common.{◌≡◌, ℕ, ◌+◌, List, IfOk, Some, None, Ok, Option, sym, refl, ap, ◌∙◌, subst, arith}
use Rattle.std.proofs.lemmas.Result.{err_from_is_err_and}
use Rattle.faults.specs.declared.call.CallFault.{CallFault}
use Rattle.dynamics.specs.Tunnels.{RunState}
use Rattle.calls.specs.Grounds.{blank_fault, fan_fault, advance_fault}
use Rattle.calls.specs.Outcomes.{reply, leaves}
use Rattle.calls.specs.Calls.{blank_run, with_period, Blanked, Fanned, Advanced}
use Rattle.calls.proofs.NoFaults.{reply-none}
use Rattle.drag.proofs.plate.measure.Goals as goal

answered : (o : Option CallFault) (x y : ℕ) → Ok x ≡ reply o y → x ≡ y
answered None x y e = cc
answered (Some f) x y e = absurd (let z : ◌≡◌ {A = ℕ} 0 1 = cc in omega arith)

period_alone : (o : Option CallFault) (s : RunState) (p : ℕ) → (leaves o s (with_period s p)).steps ≡ s.steps
period_alone None s p = refl
period_alone (Some f) s p = refl

-- a run that was blanked begins at step 0, a fan leaves the step count, and an advance of k steps answers k more
blanked_steps : {s t : RunState} {w h : ℕ} {map field map' field' : List ℕ} → Blanked s w h map field (Ok tt) t map' field' → t.steps ≡ 0
blanked_steps {s} {t} {w} {h} {map} {field} b =
    ap (λ (v : RunState). v.steps) (b.run ∙ ap (λ (o : Option CallFault). leaves o s (blank_run s.gas s.twist w h)) (reply-none (blank_fault w h map field) tt tt b.answer))

fanned_steps : {s t : RunState} {p : ℕ} {r : _} → Fanned s p r t → t.steps ≡ s.steps
fanned_steps {s} {t} {p} f = ap (λ (v : RunState). v.steps) f.run ∙ period_alone (fan_fault p) s p

advanced_steps : {s t : RunState} {k n : ℕ} {map field spare field' spare' : List ℕ} → Advanced s k map field spare (Ok n) t field' spare' → n ≡ s.steps + k
advanced_steps {s} {t} {k} {n} {map} {field} {spare} a = answered (advance_fault s k map field spare) n (s.steps + k) a.answer

pub returns : goal.returns
returns c =
    advanced_steps c.in_ok-steps.ensures
    ∙ ap (λ (n : ℕ). n + 200) {y = 0} (fanned_steps c.fan.ensures ∙ blanked_steps c.in_ok-blank.ensures.outcome)
