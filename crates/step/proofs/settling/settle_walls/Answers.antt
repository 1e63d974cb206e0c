use Rattle.std.proofs.Common.{◌≡◌, ℕ, ◌+◌, ◌-◌, ◌*◌, ◌<◌, ◌≤◌, min, false, List, length, get_or, take, drop, pos, nat_abs, sym, ap, ◌∙◌, subst, arith, length-set, length-take, length-drop, get_or-take, get_or-drop, rules}
use Rattle.std.proofs.lemmas.Int.{ints}
use Rattle.lattice.specs.declared.vector.Vector.{Vector}
use Rattle.lattice.specs.Vectors.{times}
use Rattle.gas.proofs.Bounds.{momentum_small}
use Rattle.lattice.specs.declared.vector.Vector.{Vector as Account}
use Rattle.book.specs.declared.table.Book.{Book}
use Rattle.book.specs.Accounts.{none}
use Rattle.dynamics.specs.Roles.{role_of, is_wall_of}
use Rattle.step.specs.Settling.{push_up_to, Settled}
use Rattle.step.proofs.Settles.{wall_byte, no_wall, sum_fits, settled_none, settled_skip, settled_clear, settled_more, push_small}
use Rattle.step.proofs.settling.settle_walls.Goals as goal
use Rattle.step.proofs.settling.settle_walls.Goals.{in-Wall, in_default}

-- a stretch's cell is the map's
cell_of : (map : List ℕ) (start end k : ℕ) → k < end - start → get_or (take (end - start) (drop start map)) k 0 ≡ get_or map (start + k) 0
cell_of map start end k l = get_or-take (end - start) (drop start map) k 0 l ∙ get_or-drop start map k 0

pub loop-stretch-init : goal.loop-stretch-init
loop-stretch-init g c =
    let m = g.G.Gas.model c.args.gas.now in
    let map = c.args.map.now in
    let book = c.args.book.now in
    let none_yet : 0 ≡ min (0 * 64) (length map) = omega arith in
    (book.full, subst (Settled m map c.args.field.now book.accounts book.accounts) none_yet (settled_none m map c.args.field.now book.accounts))

pub loop-stretch-preserved-then-is_clear : goal.loop-stretch-preserved-then-is_clear
loop-stretch-preserved-then-is_clear g c =
    let m = g.G.Gas.model c.args.gas.now in
    let map = c.args.map.now in
    let field = c.args.field.now in
    let old = c.args.book.now.accounts in
    let new = c.loop-stretch.book.accounts in
    let start = c.loop-stretch.stretch * 64 in
    let end = c.min.result in
    let inv = c.loop-stretch.invariant in
    let inside : start < length map = omega (arith, c.loop-stretch-test.true, c.div_ceil-stretch-end.ensures) in
    let ends : end ≡ min (length map) (start + 64) = search rules in
    let at : min start (length map) ≡ start = omega (arith, inside) in
    let next : start + (end - start) ≡ min ((c.loop-stretch.stretch + 1) * 64) (length map) = omega (arith, inside, ends) in
    let long : length (take (end - start) (drop start map)) ≡ end - start = simp (length-take, length-drop) (omega (arith, inside, ends)) in
    let clear = c.is_clear.ensures (search rules) in
    let off : (j : ℕ) → j < end - start → (k : ℕ) → is_wall_of k (role_of (get_or map (start + j) 0)) ≡ false =
    λ j l k. ap (λ (b : ℕ). is_wall_of k (role_of b)) (sym (cell_of map start end j l)) ∙ clear j (omega (arith, l, long)) k in
    (inv.0, subst (Settled m map field old new) next (settled_clear m map field old new start (end - start) off (subst (Settled m map field old new) at inv.1)))

pub twice-push-requires : goal.twice-push-requires
twice-push-requires g c =
    let m = g.G.Gas.model c.args.gas.now in
    let i = c.loop-stretch.stretch * 64 + c.loop-offset.offset in
    let small = momentum_small m (g.met.G.Gas.lawful c.args.gas.now) (get_or c.args.field.now i 0) m.channels (omega arith) in
    let a : nat_abs c.momentum.result.along ≤ 14 = subst (λ (v : Vector). nat_abs v.along ≤ 14) (sym c.momentum.ensures) small.0 in
    let b : nat_abs c.momentum.result.across ≤ 14 = subst (λ (v : Vector). nat_abs v.across ≤ 14) (sym c.momentum.ensures) small.1 in
    (omega arith, omega arith)

pub push-requires : goal.push-requires
push-requires g c =
    let m = g.G.Gas.model c.args.gas.now in
    let laws = g.met.G.Gas.lawful c.args.gas.now in
    let map = c.args.map.now in
    let field = c.args.field.now in
    let start = c.loop-stretch.stretch * 64 in
    let end = c.min.result in
    let i = start + c.loop-offset.offset in
    let n = c.in-Wall.obstacle in
    let byte = wall_byte (get_or (take (end - start) (drop start map)) c.loop-offset.offset 0) n (sym c.in-Wall.ensures) in
    let at : n - 1 < 16 = omega (arith, byte.1, byte.2) in
    let was = c.loop-offset.invariant.1 (n - 1) at in
    let o = get_or c.args.book.now.accounts (n - 1) none in
    let p = push_up_to m map field (n - 1 + 1) i in
    let old = c.requires.modest (n - 1) at in
    let far = push_small m map field laws (n - 1 + 1) i in
    let ends : end ≡ min (length map) (start + 64) = search rules in
    let few : i ≤ 16384 = omega (arith, c.requires.lengths.1, c.loop-offset-test.true, ends) in
    let small = momentum_small m laws (get_or field i 0) m.channels (omega arith) in
    let a : nat_abs c.momentum.result.along ≤ 14 = subst (λ (v : Vector). nat_abs v.along ≤ 14) (sym c.momentum.ensures) small.0 in
    let b : nat_abs c.momentum.result.across ≤ 14 = subst (λ (v : Vector). nat_abs v.across ≤ 14) (sym c.momentum.ensures) small.1 in
    let x = ap (λ (v : Vector). v.along) c.twice-push.ensures in
    let y = ap (λ (v : Vector). v.across) c.twice-push.ensures in
    record {
      number = (byte.1, omega (arith, byte.2));
      along = sum_fits _ o.along p.along _ i (ap (λ (z : Account). z.along) was) old.0 far.0 few (omega (arith, ints));
      across = sum_fits _ o.across p.across _ i (ap (λ (z : Account). z.across) was) old.1 far.1 few (omega (arith, ints));
    }

pub loop-offset-preserved : goal.loop-offset-preserved
loop-offset-preserved g c =
    let m = g.G.Gas.model c.args.gas.now in
    let map = c.args.map.now in
    let field = c.args.field.now in
    let start = c.loop-stretch.stretch * 64 in
    let end = c.min.result in
    let k = c.loop-offset.offset in
    let i = start + k in
    let old = c.args.book.now.accounts in
    let new = c.loop-offset.book.accounts in
    let ends : end ≡ min (length map) (start + 64) = search rules in
    let long : length (take (end - start) (drop start map)) ≡ end - start = simp (length-take, length-drop) (omega (arith, ends)) in
    let cell = cell_of map start end k (search rules) in
    let next : i + 1 ≡ start + (k + 1) = omega arith in
    elim c.match-from.branch [
      | in-Wall w ↦
          let role = sym w.in-Wall.ensures in
          let byte = wall_byte (get_or (take (end - start) (drop start map)) k 0) w.in-Wall.obstacle role in
          let long = c.loop-offset.invariant.0 in (
            subst (λ (b : Book). length b.accounts ≡ 16) (sym w.book-is) (ap length w.push.ensures ∙ length-set new _ _ ∙ long),
            subst (λ (b : Book). Settled m map field old b.accounts (start + (k + 1))) (sym w.book-is)
                (subst (λ (b : List Account). Settled m map field old b (start + (k + 1))) (sym w.push.ensures)
                (subst (Settled m map field old _) next
                (settled_more m map field old new i w.in-Wall.obstacle w.twice-push.result long byte.1 byte.2 (ap role_of (sym cell) ∙ role)
                (w.twice-push.ensures ∙ ap (times (pos 2)) w.momentum.ensures) c.loop-offset.invariant.1))),
          )
      | in_default w ↦ (
        subst (λ (b : Book). length b.accounts ≡ 16) (sym w.book-is) c.loop-offset.invariant.0,
        subst (λ (b : Book). Settled m map field old b.accounts (start + (k + 1))) (sym w.book-is)
            (subst (Settled m map field old new) next
            (settled_skip m map field old new i (λ n. ap (λ (b : ℕ). is_wall_of n (role_of b)) (sym cell) ∙ ap (is_wall_of n) (sym c.from.ensures) ∙ no_wall c.from.result w.in_default.not-Wall n) c.loop-offset.invariant.1)),
      )
    ]
