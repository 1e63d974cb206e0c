use Rattle.std.proofs.Common.{◌≡◌, ℕ, ◌+◌, ◌^◌, ◌≤◌, List, get_or, pos, nat_abs, sym, ap, ◌∙◌, subst, arith}
use Rattle.lattice.specs.Vectors.{times}
use Rattle.lattice.specs.declared.vector.Vector.{Vector as Account}
use Rattle.gas.specs.Streaming.{arriving}
use Rattle.book.specs.Accounts.{none, fan_account, pushed}
use Rattle.dynamics.specs.Tunnels.{RunState, cells}
use Rattle.dynamics.specs.States.{state_of}
use Rattle.dynamics.specs.Pushes.{book_after}
use Rattle.step.specs.Results.{Filled}
use Rattle.step.specs.Scenes.{scene_of}
use Rattle.step.proofs.Overlays.{take_long, filled_over}
use Rattle.step.proofs.StepResults.{field_after, book_after_lem, fan_far, modest, settled_cut}
use Rattle.step.proofs.RowScenes.{count_few}
use Rattle.step.proofs.steps.step.Goals as goal

pub settle_fan-requires : goal.settle_fan-requires
settle_fan-requires g c =
    let s = state_of g.G.Gas g.S.TwistSource c.args.gas.now c.args.state.now in
    let n = cells s in
    let map = c.args.map.now in
    let field = c.args.field.now in
    let t = scene_of s map field in
    let sound = c.requires.sound in
    let few : c.collide_rows-turned.result ≤ n = subst (λ (k : ℕ). k ≤ n) (sym c.collide_rows-turned.ensures.all.turned) (count_few n _) in
    let far = fan_far t c.settle_walls.new.book.accounts
    (settled_cut s.gas n c.cells-cells.result map field s.book c.settle_walls.new.book.accounts c.cells-cells.ensures.value sound.map_long c.settle_walls.ensures)
    (modest s.book s.steps c.requires.steps sound.run.book) in
    let books = sym (ap (λ (x : RunState). x.book) c.collide_rows-turned.ensures.run) in
    record {
      turned = omega (arith, few, sound.run.grid.few);
      along = subst (λ (b : List Account). nat_abs (get_or b 15 none).along ≤ 2 ^ 61) books far.0;
      across = subst (λ (b : List Account). nat_abs (get_or b 15 none).across ≤ 2 ^ 61) books far.1;
    }

pub returns : goal.returns
returns g c =
    let s = state_of g.G.Gas g.S.TwistSource c.args.gas.now c.args.state.now in
    let n = cells s in
    let map = c.args.map.now in
    let field = c.args.field.now in
    let t = scene_of s map field in
    let sound = c.requires.sound in
    let all = c.collide_rows-turned.ensures.all in
    let same = c.collide_rows-turned.ensures.run in
    let spare = c.collide_rows-turned.new.spare in
    let fits = take_long n field sound.field_long in
    let moves = subst (λ (x : RunState). Filled (cells x) (arriving x.gas x.width x.height spare) field c.stream_rows.new.field) same c.stream_rows.ensures in
    let books : c.settle_fan.new.book.accounts ≡ book_after t = book_after_lem t c.settle_walls.new.book.accounts c.settle_fan.new.book.accounts c.collide_rows-turned.result c.settle_walls.new.book.full
    (settled_cut s.gas n c.cells-cells.result map field s.book c.settle_walls.new.book.accounts c.cells-cells.ensures.value sound.map_long c.settle_walls.ensures)
    all.turned
    (c.settle_fan.ensures ∙ ap (λ (x : RunState). pushed x.book fan_account (times (pos 2) (times (pos c.collide_rows-turned.result) (x.gas.vector 0)))) same) in
    record {
      field = field_after t sound c.args.spare.now spare field c.stream_rows.new.field fits c.stream_rows.auto.field all.spare moves;
      spare = filled_over n _ c.args.spare.now spare c.requires.spare c.collide_rows-turned.auto.spare all.spare;
      run = λ j. record {
        gas = (same j).gas;
        entries = (same j).entries;
        twist = (same j).twist;
        mark = (same j).mark;
        width = (same j).width;
        height = (same j).height;
        period = (same j).period;
        steps = (same j).steps + 1;
        book = books j;
      };
    }
