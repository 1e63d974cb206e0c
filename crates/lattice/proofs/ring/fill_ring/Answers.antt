-- At each place the place before it and the next are those that the loop and the two edges name.
use Rattle.std.proofs.Common.{◌-◌, length, sym, refl, arith, length-set}
use Rattle.std.proofs.Math.Path.{subst₂}
use Rattle.lattice.specs.Grids.{onward, backward}
use Rattle.lattice.proofs.Rings.{onward_next, onward-first, backward_next, backward_last}
use Rattle.lattice.proofs.Writes.{rule_more}
use Rattle.lattice.proofs.ring.fill_ring.Goals as goal

pub made-requires : goal.made-requires
made-requires g c =
    let n = length c.args.ring.now in
    subst₂ (λ x y. goal.F-pre g c.args.made x 0 y) (backward_last n 0 refl (omega arith)) (onward_next n 0 (omega arith)) (c.requires.callable 0 (omega arith))

pub made-requires-in-loop-place : goal.made-requires-in-loop-place
made-requires-in-loop-place g c =
    let n = length c.args.ring.now in
    let k = c.loop-place.place in
    subst₂ (λ x y. goal.F-pre g c.args.made x k y) (backward_next n k (omega arith) (omega arith)) (onward_next n k (omega arith)) (c.requires.callable k (omega arith))

pub made-requires-2 : goal.made-requires-2
made-requires-2 g c =
    let n = length c.args.ring.now in
    let last = n - 1 in
    subst₂ (λ x y. goal.F-pre g c.args.made x last y) (backward_next n last (omega arith) (omega arith)) (onward-first n last (omega arith) (omega arith)) (c.requires.callable last (omega arith))

pub loop-place-init : goal.loop-place-init
loop-place-init g c =
    let n = length c.args.ring.now in
    rule_more (λ k x. goal.F-post g c.args.made (backward n k) k (onward n k) x) c.args.ring.now 0 c.made.result (omega arith)
    (subst₂ (λ x y. goal.F-post g c.args.made x 0 y c.made.result) (sym (backward_last n 0 refl (omega arith))) (sym (onward_next n 0 (omega arith))) c.made.ensures)
    (λ k l. absurd (omega arith))

pub loop-place-preserved : goal.loop-place-preserved
loop-place-preserved g c =
    let n = length c.args.ring.now in
    let i = c.loop-place.place in
    let made = c.made-in-loop-place.result in
    rule_more (λ k x. goal.F-post g c.args.made (backward n k) k (onward n k) x) c.loop-place.ring i made (omega (arith, length-set c.args.ring.now 0 c.made.result))
    (subst₂ (λ x y. goal.F-post g c.args.made x i y made) (sym (backward_next n i (omega arith) (omega arith))) (sym (onward_next n i (omega arith))) c.made-in-loop-place.ensures)
    c.loop-place.invariant

pub returns-clause-each : goal.returns-clause-each
returns-clause-each g c = λ k l.
    let n = length c.args.ring.now in
    let last = n - 1 in
    rule_more (λ k x. goal.F-post g c.args.made (backward n k) k (onward n k) x) c.loop-place.ring last c.made-2.result (omega (arith, length-set c.args.ring.now 0 c.made.result))
    (subst₂ (λ x y. goal.F-post g c.args.made x last y c.made-2.result) (sym (backward_next n last (omega arith) (omega arith))) (sym (onward-first n last (omega arith) (omega arith))) c.made-2.ensures)
    (λ j h. c.loop-place.invariant j (omega arith)) k (omega arith)
