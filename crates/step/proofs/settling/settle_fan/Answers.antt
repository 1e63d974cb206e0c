use Rattle.std.proofs.Common.{◌≡◌, ℕ, ◌^◌, ◌≤◌, ℤ, pos, ◌+ℤ◌, ◌*ℤ◌, nat_abs, sym, ap, ◌∙◌, subst, arith, w64, SFits, to_z, of_z, rules}
use Rattle.std.proofs.lemmas.Int.{ints, to_z-of_z}
use Rattle.lattice.specs.declared.vector.Vector.{Vector}
use Rattle.step.proofs.Products.{product_small}
use Rattle.step.proofs.settling.settle_fan.Goals as goal

-- what is counted, as the model has it
counted_is : (n : ℕ) (r v w : ℤ) → SFits w64 r → SFits w64 v → r ≡ pos n *ℤ to_z w64 (of_z w64 v) → v ≡ w → to_z w64 (of_z w64 r) ≡ pos n *ℤ w
counted_is n r v w fr fv is e = to_z-of_z w64 r fr ∙ is ∙ ap (λ (z : ℤ). pos n *ℤ z) (to_z-of_z w64 v fv ∙ e)

pub twice-requires : goal.twice-requires
twice-requires g c =
    let m = g.G.Gas.model c.args.gas.now in
    let laws = g.met.G.Gas.lawful c.args.gas.now in
    let short = laws.short 0 (omega (arith, laws.some)) in
    let x = counted_is c.args.turned c.counted-along.result c.vector-east.result.along (m.vector 0).along (search rules) (search rules) c.counted-along.ensures (ap (λ (v : Vector). v.along) c.vector-east.ensures) in
    let y = counted_is c.args.turned c.counted-across.result c.vector-east.result.across (m.vector 0).across (search rules) (search rules) c.counted-across.ensures (ap (λ (v : Vector). v.across) c.vector-east.ensures) in
    let a : nat_abs (pos c.args.turned *ℤ (m.vector 0).along) ≤ 1000000 = omega (arith, product_small c.args.turned (m.vector 0).along c.requires.turned short.0) in
    let b : nat_abs (pos c.args.turned *ℤ (m.vector 0).across) ≤ 1000000 = omega (arith, product_small c.args.turned (m.vector 0).across c.requires.turned short.1) in
    (subst (λ (z : ℤ). nat_abs z ≤ 1000000) (sym x) a, subst (λ (z : ℤ). nat_abs z ≤ 1000000) (sym y) b)

-- an account far from the ends of its numbers takes a small push
far_fits : (a p r : ℤ) → nat_abs a ≤ 2 ^ 61 → nat_abs p ≤ 32768 → r ≡ pos 2 *ℤ p → SFits w64 (a +ℤ r)
far_fits a p r far small is = omega (arith, ints)

pub push-requires : goal.push-requires
push-requires g c =
    let m = g.G.Gas.model c.args.gas.now in
    let laws = g.met.G.Gas.lawful c.args.gas.now in
    let short = laws.short 0 (omega (arith, laws.some)) in
    let x = counted_is c.args.turned c.counted-along.result c.vector-east.result.along (m.vector 0).along (search rules) (search rules) c.counted-along.ensures (ap (λ (v : Vector). v.along) c.vector-east.ensures) in
    let y = counted_is c.args.turned c.counted-across.result c.vector-east.result.across (m.vector 0).across (search rules) (search rules) c.counted-across.ensures (ap (λ (v : Vector). v.across) c.vector-east.ensures) in
    let p = pos c.args.turned *ℤ (m.vector 0).along in
    let q = pos c.args.turned *ℤ (m.vector 0).across in
    record {
      number = (omega arith, omega arith);
      along = far_fits _ p _ c.requires.along (product_small c.args.turned (m.vector 0).along c.requires.turned short.0) (ap (λ (v : Vector). v.along) c.twice.ensures ∙ ap (λ (z : ℤ). pos 2 *ℤ z) x);
      across = far_fits _ q _ c.requires.across (product_small c.args.turned (m.vector 0).across c.requires.turned short.1) (ap (λ (v : Vector). v.across) c.twice.ensures ∙ ap (λ (z : ℤ). pos 2 *ℤ z) y);
    }
