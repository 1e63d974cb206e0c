use Rattle.std.proofs.Common.{◌≡◌, ◌*◌, ◌%◌, ◌^◌, ap, ◌∙◌, arith}
use lib.Bits.{bit_or, or_shifted_r}
use Rattle.std.proofs.lemmas.Nat.{one_shl}
use Rattle.lattice.proofs.states.with_particle.Goals as goal

pub returns : goal.returns
returns c =
    let s = c.args.state in
    let q = c.args.channel in
    let shifted : (1 * 2 ^ q) % 2 ^ 8 ≡ 1 * 2 ^ q = omega (arith, one_shl q 8 c.requires.0) in
    ap (bit_or s) shifted ∙ or_shifted_r 1 q s c.requires.1 ∙ omega arith
