-- Seven masks make the state channel by channel, the highest outermost.
use Rattle.std.proofs.Common.{ℕ, Bool, get_or, refl, ap, arith}
use lib.Bits.{bit_and}
use Rattle.lattice.specs.States.{holds}
use Rattle.lattice.specs.Sources.{gathered}
use Rattle.lattice.proofs.Making.{state_of_masked, state_of_masked-first}
use Rattle.hexagonal.specs.Sources.{sources}
use Rattle.hexagonal.proofs.streaming.gather.Goals as goal

pub returns : goal.returns
unfolding gathered
returns c =
    let p : ℕ → Bool = λ q. holds (get_or c.args.from.now (get_or (sources c.args.rows c.args.columns) q 0) 0) q in
    ap (λ (s : ℕ). bit_and s c.args.mask)
    (state_of_masked 6 _ _ _ p (omega arith)
    (state_of_masked 5 _ _ _ p (omega arith)
    (state_of_masked 4 _ _ _ p (omega arith)
    (state_of_masked 3 _ _ _ p (omega arith)
    (state_of_masked 2 _ _ _ p (omega arith) (state_of_masked 1 _ _ _ p (omega arith) (state_of_masked-first _ _ p (omega arith) refl) refl) refl) refl) refl) refl) refl)
