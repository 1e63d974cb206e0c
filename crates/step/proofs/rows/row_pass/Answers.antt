use Rattle.std.proofs.Common.{◌≡◌, ℕ, ◌+◌, ◌*◌, ◌<◌, ◌≤◌, Bool, cond, length, get_or, sym, refl, ap, ◌∙◌, add-zero, add-one, arith, rules}
use Rattle.twist.specs.Model.{TwistModel}
use Rattle.dynamics.specs.States.{state_of}
use Rattle.dynamics.specs.Roles.{role_of}
use Rattle.dynamics.specs.Step.{mark_at}
use Rattle.step.specs.declared.cell.Collided.{Collided}
use Rattle.step.specs.Rows.{cell_after, cell_in}
use Rattle.step.proofs.RowSteps.{row_none, row_more}
use Rattle.step.proofs.rows.row_pass.Goals as goal
use Rattle.step.proofs.rows.row_pass.Goals.{then-cell, else-cell}

pub loop-column-init : goal.loop-column-init
loop-column-init g c = (omega arith, row_none _ _, refl, refl)

pub loop-column-preserved : goal.loop-column-preserved
loop-column-preserved g c =
    let s = state_of g.G.Gas g.S.TwistSource c.args.gas.now c.args.state.now in
    let i = c.loop-column.column in
    let row = c.args.row in
    let map = c.args.map.now in
    let field = c.args.field.now in
    let inv = c.loop-column.invariant in
    let wide = c.width-width.ensures.value in
    let cell : ℕ → Collided = cell_in s row map field in
    let twist_is : c.ask-twist.result ≡ s.twist.bit (mark_at s.twist s.mark i) s.steps i row =
    c.ask-twist.ensures.answer
    ∙ ap (λ (x : TwistModel). x.bit (g.S.TwistSource.mark c.loop-column.source) s.steps i row) inv.3
    ∙ ap (λ (x : ℕ). s.twist.bit x s.steps i row) inv.2 in
    let role-is = c.from-role.ensures ∙ ap (λ (n : ℕ). role_of (get_or map (row * n + i) 0)) wide in
    let state-is : get_or field (row * c.width-width.result + i) 0 ≡ get_or field (row * s.width + i) 0 = ap (λ (n : ℕ). get_or field (row * n + i) 0) wide in
    let cell-is : c.collide_cell-cell.result ≡ cell i =
    c.collide_cell-cell.ensures ∙ (λ j. cell_after s.gas s.entries (c.fan_acts-acts.ensures j) (twist_is j) (role-is j) (state-is j)) in
    let count : c.if-cell.turned ≡ c.loop-column.turned + cond c.collide_cell-cell.result.turned 1 0 =
    elim c.if-cell.branch [
      | then-cell w ↦ w.turned-is ∙ ap (λ (b : Bool). c.loop-column.turned + cond b 1 0) (sym w.if-cell.true)
      | else-cell w ↦ w.turned-is ∙ sym (add-zero _) ∙ ap (λ (b : Bool). c.loop-column.turned + cond b 1 0) (sym w.if-cell.false)
    ] in
    let small : c.if-cell.turned ≤ i + 1 = elim c.if-cell.branch [ then-cell w ↦ omega (arith, w.turned-is, inv.0) | else-cell w ↦ omega (arith, w.turned-is, inv.0) ] in
    let lt : i < length c.loop-column.spare = search rules in (
      small,
      row_more cell c.args.spare.now c.loop-column.spare i c.loop-column.turned c.if-cell.turned c.collide_cell-cell.result.state lt
          (ap (λ (x : Collided). x.state) cell-is)
          (count ∙ ap (λ (x : Collided). c.loop-column.turned + cond x.turned 1 0) cell-is)
          inv.1,
      c.ask-twist.ensures.moved ∙ ap (λ (x : TwistModel). x.next (g.S.TwistSource.mark c.loop-column.source)) inv.3 ∙ ap s.twist.next inv.2
          ∙ ap (mark_at s.twist s.mark) (sym (add-one i)),
      c.ask-twist.ensures.same ∙ inv.3,
    )
