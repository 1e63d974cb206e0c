-- A cell's role by its map byte: 0 is open, 1 to 15 are walls of that obstacle, 16 is a fan cell.
use Rattle.std.specs.Prelude.{ℕ, Bool, true, false, cond, ◌==◌, nat_le}
use Rattle.book.specs.Accounts.{obstacles}
use Rattle.dynamics.specs.declared.role.Role.{Role}
use Rattle.dynamics.specs.declared.role.Role.TheVariants.{Open, Wall, Fan}

abbrev pub fan_byte : ℕ
fan_byte = 16

-- no map byte is higher
abbrev pub highest_map_byte : ℕ
highest_map_byte = 16

abbrev pub role_of : ℕ → Role
role_of byte = cond (byte == 0) Open (cond (nat_le byte obstacles) (Wall byte) (cond (byte == fan_byte) Fan Open))

-- whether a role is a wall of obstacle n
abbrev pub is_wall_of : ℕ → Role → Bool
is_wall_of n Open = false
is_wall_of n (Wall k) = k == n
is_wall_of n Fan = false

abbrev pub is_fan : Role → Bool
is_fan Open = false
is_fan (Wall k) = false
is_fan Fan = true
