-- A source that is turned twice is its lower one again.
use Rattle.std.specs.Prelude.{◌≡◌}
use Rattle.twist.specs.Model.{TwistModel}
use Rattle.twist.specs.Kinds.{turned}

abbrev pub TurnedTwice : Type 0
TurnedTwice = (s : TwistModel) → turned (turned s) ≡ s
