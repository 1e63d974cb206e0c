use Rattle.std.proofs.Common.{◌≡◌, ℕ, ◌+◌, ◌-◌, ◌*◌, ◌<◌, ◌≤◌, cond, length, get_or, take, drop, sym, ap, ◌∙◌, subst, mul_comm, zero-mul, arith}
use borrow.Rule.Slice.PartMut.{put_mid}
use Rattle.lattice.specs.Sums.{count_n}
use Rattle.lattice.proofs.Sums.{sum_n_start}
use Rattle.lattice.proofs.Cells.{row_next, row_fits_lem, lawful_grid}
use Rattle.dynamics.specs.Tunnels.{RunState}
use Rattle.dynamics.specs.States.{state_of}
use Rattle.dynamics.specs.Step.{collided_at}
use Rattle.dynamics.specs.Pushes.{turns_at}
use Rattle.step.specs.declared.cell.Collided.{Collided}
use Rattle.step.specs.Rows.{cell_in, asked, RowCollided}
use Rattle.step.specs.Results.{Filled}
use Rattle.step.specs.Scenes.{scene_of}
use Rattle.step.proofs.Stretches.{part_long, filled_none, filled_more}
use Rattle.step.proofs.RowScenes.{mark_at_add, count_few, in_whole, count_rows}
use Rattle.step.proofs.rows.collide_rows.Goals as goal

-- asked a times, and then b times more
asked_more : (s : RunState) (a b : ℕ) → asked b (asked a s) ≡ asked (a + b) s
asked_more s a b = λ j. record {
  gas = s.gas;
  entries = s.entries;
  twist = s.twist;
  mark = sym (mark_at_add s.twist s.mark a b) j;
  width = s.width;
  height = s.height;
  period = s.period;
  steps = s.steps;
  book = s.book;
}

pub loop-row-init : goal.loop-row-init
loop-row-init g c =
    let s = state_of g.G.Gas g.S.TwistSource c.args.gas.now c.args.state.now in
    let t = scene_of s c.args.map.now c.args.field.now in
    let z : 0 ≡ 0 * s.width = sym (zero-mul s.width) in (
      filled_none (collided_at t) c.args.spare.now s.width,
      sum_n_start (λ i. cond (turns_at t i) 1 0) ∙ ap (λ (n : ℕ). count_n n (turns_at t)) z,
      ap (λ (n : ℕ). asked n s) z,
    )

pub overflow_add-turned : goal.overflow_add-turned
overflow_add-turned g c =
    let grid = c.args.state.now.grid in
    let w = grid.width in
    let few = (lawful_grid grid).few in
    let f = row_fits_lem c.loop-row.row w grid.height (omega (arith, c.loop-row-test.true, c.height-height.ensures.value)) in
    let so_far : c.loop-row.turned ≤ c.loop-row.row * w = subst (λ (n : ℕ). n ≤ c.loop-row.row * w) (sym c.loop-row.invariant.1) (count_few (c.loop-row.row * w) _) in
    let width : c.loop-row.state.grid.width ≡ w = ap (λ (s : RunState). s.width) c.loop-row.invariant.2 in
    let here : c.row_pass-turned.result ≤ c.loop-row.state.grid.width = subst (λ (n : ℕ). n ≤ c.loop-row.state.grid.width) (sym c.row_pass-turned.ensures.row.turned) (count_few c.loop-row.state.grid.width _) in
    omega (arith, so_far, here, width, f, few)

pub loop-row-preserved : goal.loop-row-preserved
loop-row-preserved g c =
    let s = state_of g.G.Gas g.S.TwistSource c.args.gas.now c.args.state.now in
    let map = c.args.map.now in
    let field = c.args.field.now in
    let t = scene_of s map field in
    let w = s.width in
    let r = c.loop-row.row in
    let inv = c.loop-row.invariant in
    let xs = c.loop-row.spare in
    let ys = c.row_pass-turned.new.spare in
    let wide = c.width-width.ensures.value in
    let below : r < s.height = omega (arith, c.loop-row-test.true, c.height-height.ensures.value) in
    let f = row_fits_lem r w s.height below in
    let fits : r * w + w ≤ length xs = omega (arith, f, c.requires.spare, c.loop-row.auto.spare) in
    let start : r * c.width-width.result ≡ r * w = ap (λ (x : ℕ). r * x) wide in
    let long : length ys ≡ length xs - r * w = c.row_pass-turned.auto.spare ∙ part_long xs (r * c.width-width.result) (omega arith) ∙ ap (λ (v : ℕ). length xs - r * v) wide in
    let part = take (length xs - r * c.width-width.result) (drop (r * c.width-width.result) xs) in
    let told = subst (λ (x : RunState). RowCollided x.width (cell_in x r map field) part ys c.row_pass-turned.result) inv.2 c.row_pass-turned.ensures.row in
    let after : state_of g.G.Gas g.S.TwistSource c.args.gas.now c.row_pass-turned.new.state ≡ asked ((r + 1) * w) s =
    c.row_pass-turned.ensures.run ∙ ap (λ (x : RunState). asked x.width x) inv.2 ∙ asked_more s (r * w) w ∙ ap (λ (n : ℕ). asked n s) (sym (row_next r w)) in (
      subst (λ (v : ℕ). Filled ((r + 1) * w) (collided_at t) c.args.spare.now (put_mid (r * v) (length xs - r * v) xs ys)) (sym wide)
          (filled_more (collided_at t) c.args.spare.now xs ys r w fits long
          (λ q h. told.row q h ∙ ap (λ (x : Collided). x.state) (in_whole s map field r q below h))
          (λ q h. told.rest q h ∙ ap (λ (v : ℕ). get_or (take (length xs - r * v) (drop (r * v) xs)) q 0) wide)
          inv.0),
      ap (λ (n : ℕ). n + c.row_pass-turned.result) inv.1 ∙ count_rows s map field r c.row_pass-turned.result below told.turned,
      after,
    )

pub returns : goal.returns
returns g c =
    let s = state_of g.G.Gas g.S.TwistSource c.args.gas.now c.args.state.now in
    let w = s.width in
    let h = s.height in
    let end : c.loop-row.row * w ≡ w * h = ap (λ (x : ℕ). x * w) (let q : c.loop-row.row ≡ h = omega (arith, c.loop-row-test.false, c.loop-row.auto.row-end, c.height-height.ensures.value) in q) ∙ mul_comm h w in
    let t = scene_of s c.args.map.now c.args.field.now in
    record {
      all = record {
        spare = subst (λ (n : ℕ). Filled n (collided_at t) c.args.spare.now c.loop-row.spare) end c.loop-row.invariant.0;
        turned = c.loop-row.invariant.1 ∙ ap (λ (n : ℕ). count_n n (turns_at t)) end;
      };
      run = c.loop-row.invariant.2 ∙ ap (λ (n : ℕ). asked n s) end;
    }
