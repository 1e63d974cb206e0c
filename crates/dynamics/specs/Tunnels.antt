-- The state of a tunnel: what the run holds, and the map and the field, one byte for each cell.
use Rattle.std.specs.Prelude.{ℕ, ◌*◌, List, map}
use Rattle.std.specs.List.{range_with_len}
use Rattle.gas.specs.Model.{GasModel}
use Rattle.twist.specs.Model.{TwistModel}
use Rattle.lattice.specs.declared.vector.Vector.{Vector as Account}

pub record RunState : Type 0 where
  pub gas : GasModel
  pub entries : List ℕ
  pub twist : TwistModel
  pub mark : ℕ
  pub width : ℕ
  pub height : ℕ
  pub period : ℕ
  pub steps : ℕ
  pub book : List Account

pub record Tunnel : Type 0 where
  pub run : RunState
  pub map : List ℕ
  pub field : List ℕ

abbrev pub cells : RunState → ℕ
cells r = r.width * r.height

-- the list of f 0 to f (n - 1)
abbrev pub listed : {X : Type 0} → ℕ → (ℕ → X) → List X
listed n f = map f (range_with_len 0 n)
