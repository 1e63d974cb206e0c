-- Below the channel the state holds what `holds` picked, and it holds nothing from there on.
use Rattle.std.proofs.Common.{◌≡◌, ℕ, ◌^◌, ◌<◌, Bool}
use Rattle.lattice.specs.States.{state_of}
use Rattle.lattice.proofs.states.state_where.Given as goal

abbrev pub invariant-loop-channel : goal.invariant-loop-channel
invariant-loop-channel g l =
    (l.state < 2 ^ l.channel) × ((p : ℕ → Bool) → ((c : ℕ) (b : Bool) → c < l.channel → goal.F-post g l.holds c b → b ≡ p c) → l.state ≡ state_of l.channel p)
