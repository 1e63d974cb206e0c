use Rattle.std.proofs.Common.{◌≡◌, ◌+◌, ◌*◌, ◌%◌, ◌^◌, get_or, drop, ◌∙◌, bit_and, arith}
use Rattle.std.proofs.lemmas.List.{at_drop_more}
use Rattle.std.proofs.lemmas.Nat.{mul-mod_first, and_mask}
use Rattle.records.specs.Format.{weighed}
use Rattle.records.proofs.format.check_of.Goals as goal

pub loop-i-preserved : goal.loop-i-preserved
loop-i-preserved c =
    let xs = c.args.payload.now in
    let i = c.loop-i.i in
    let weight : (bit_and i 4294967295 + 1) % 2 ^ 32 ≡ (i + 1) % 2 ^ 32 = omega (arith, and_mask i 32) in
    let term : (bit_and i 4294967295 + 1) % 2 ^ 32 * c.from.result % 2 ^ 32 ≡ (i + 1) * get_or xs i 0 % 2 ^ 32 =
    (λ j. weight j * c.from.ensures j % 2 ^ 32) ∙ mul-mod_first (i + 1) (get_or xs i 0) (2 ^ 32) in
    let more : weighed i (drop i xs) ≡ (i + 1) * get_or xs i 0 + weighed (i + 1) (drop (i + 1) xs) = at_drop_more (weighed i) xs i 0 c.loop-i-test.true in
    omega (arith, c.loop-i.invariant, term, more)
