-- Small figures worked by hand, over the definitions that the contracts use.
use Rattle.std.specs.Prelude.{◌≡◌, ℕ, Bool, true, false, [], ◌∷◌, replicate, pos, negsuc}
use Rattle.lattice.specs.Vectors.{vec}
use Rattle.lattice.specs.Grids.{cell_at}
use Rattle.gas.specs.Model.{GasModel, outcome}
use Rattle.square.specs.Square.{square}
use Rattle.hexagonal.specs.Hexagonal.{hexagonal}
use Rattle.twist.specs.Kinds.{parity, register}
use Rattle.lattice.specs.declared.vector.Vector.{Vector as Account}
use Rattle.book.specs.Accounts.{accounts, account_at, grown}
use Rattle.dynamics.specs.declared.role.Role.{Role}
use Rattle.dynamics.specs.declared.role.Role.TheVariants.{Wall, Fan}
use Rattle.dynamics.specs.Cells.{collision}
use Rattle.dynamics.specs.Tunnels.{Tunnel}
use Rattle.dynamics.specs.Pushes.{stepped}

-- the outcome of a hexagonal state by the house rules
abbrev pub becomes : Bool → ℕ → ℕ
becomes twist state = outcome hexagonal hexagonal.house twist state

-- the state of a cell with this role after the collision, by the house rules
abbrev pub collides : GasModel → Bool → Bool → Role → ℕ → ℕ
collides gas acts twist role state = collision gas gas.house acts twist role state

-- a tunnel of 2 columns and 2 rows, at step 0, with a fan of period 1 and this in each account: cell 0 is of this kind and holds
-- this state, and all others are open and empty
abbrev pub one_cell : GasModel → Account → ℕ → ℕ → Tunnel
one_cell gas before kind state = record {
  run = record {
    gas = gas;
    entries = gas.house;
    twist = parity;
    mark = parity.first;
    width = 2;
    height = 2;
    period = 1;
    steps = 0;
    book = replicate accounts before;
  };
  map = kind ∷ 0 ∷ 0 ∷ 0 ∷ [];
  field = state ∷ 0 ∷ 0 ∷ 0 ∷ [];
}

-- account n of that tunnel one step on
abbrev pub account_after : GasModel → Account → ℕ → ℕ → ℕ → Account
account_after gas before kind state n = account_at (stepped (one_cell gas before kind state)).run.book n

pub record Figures : Type 0 where
  -- two particles that meet head on turn left under twist 0 and right under twist 1
  pub head_on_left : becomes false 9 ≡ 18
  pub head_on_right : becomes true 9 ≡ 36
  -- three particles that meet, with one at rest
  pub three_way : (twist : Bool) → becomes twist 85 ≡ 106
  -- a particle at rest that is hit, and two that come to rest
  pub set_off : (twist : Bool) → becomes twist 65 ≡ 34
  pub come_to_rest : (twist : Bool) → becomes twist 34 ≡ 65
  -- a wall turns particles north and west round, and its obstacle's account grows by twice their momentum, (−2, 2)
  pub square_wall : (acts twist : Bool) → collides square acts twist (Wall 3) 6 ≡ 9
  pub square_push : (before : Account) → account_after square before 3 6 3 ≡ grown before (vec (negsuc 1) (pos 2))
  -- a particle at rest stays in its wall; one east is turned round
  pub hexagonal_wall : (acts twist : Bool) → collides hexagonal acts twist (Wall 1) 65 ≡ 72
  pub hexagonal_push : (before : Account) → account_after hexagonal before 1 65 1 ≡ grown before (vec (pos 4) (pos 0))
  -- an acting fan turns a particle west to the east, and its account grows by twice the east vector
  pub square_fan : (twist : Bool) → collides square true twist Fan 4 ≡ 1
  pub fan_push : (before : Account) → account_after square before 16 4 16 ≡ grown before (vec (pos 2) (pos 0))
  -- north-east from the last cell of a grid of 4 columns and 2 rows is its first
  pub north_east : hexagonal.neighbour 4 2 1 (cell_at 4 3 1) ≡ cell_at 4 0 0
  -- the register's first answer
  pub first_bit : register.bit 0xACE1 0 0 0 ≡ true
  pub second_mark : register.next 0xACE1 ≡ 0xE270
