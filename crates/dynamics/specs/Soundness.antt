-- A sound tunnel: its gas and source keep their laws, its grid, bytes and numbers lie in their ranges.
use Rattle.std.specs.Prelude.{◌≡◌, ℕ, ◌<◌, ◌≤◌, true, length, slice_index, slice_index_or}
use Rattle.lattice.specs.Grids.{Lawful}
use Rattle.gas.specs.Model.{states}
use Rattle.gas.specs.Laws.{GasLaws}
use Rattle.gas.specs.Soundness.{SoundTable}
use Rattle.twist.specs.Model.{TwistLaws}
use Rattle.book.specs.Accounts.{accounts, none, account_fits}
use Rattle.dynamics.specs.Roles.{highest_map_byte}
use Rattle.dynamics.specs.Tunnels.{RunState, Tunnel, cells}

pub record SoundRun (r : RunState) : Type 0 where
  pub gas : GasLaws r.gas
  pub entries : SoundTable r.gas r.entries
  pub twist : TwistLaws r.twist
  pub mark : r.twist.lawful r.mark ≡ true
  pub grid : Lawful r.width r.height
  pub book_long : length r.book ≡ accounts
  pub book : (k : ℕ) → k < accounts → account_fits r.steps (slice_index_or r.book k none) ≡ true

pub record SoundTunnel (t : Tunnel) : Type 0 where
  pub run : SoundRun t.run
  pub map_long : length t.map ≡ cells t.run
  pub map : (i : ℕ) → i < cells t.run → slice_index t.map i ≤ highest_map_byte
  pub field_long : length t.field ≡ cells t.run
  pub field : (i : ℕ) → i < cells t.run → slice_index t.field i < states t.run.gas
