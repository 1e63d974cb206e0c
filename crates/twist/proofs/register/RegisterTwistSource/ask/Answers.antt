use Rattle.std.proofs.Common.{ℕ, ◌≤◌, sym, subst}
use Rattle.twist.specs.Sources.{shifted_range}
use Rattle.twist.proofs.register.RegisterTwistSource.ask.Goals as goal

pub invariant_of-self : goal.invariant_of-self
invariant_of-self c =
    let range = shifted_range c.args.self.now.mark c.args.self.now.some c.args.self.now.short in
    record {
      some = subst (λ (m : ℕ). 1 ≤ m) (sym c.shift-self.ensures) range.0;
      short = subst (λ (m : ℕ). m ≤ 65535) (sym c.shift-self.ensures) range.1;
    }
