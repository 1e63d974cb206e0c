-- An entry is sound if its outcome is a state with the particle count and the momentum of the state that it stands for.
use Rattle.std.specs.Prelude.{◌≡◌, ℕ, ◌*◌, ◌<◌, Bool, List, length, slice_index}
use Rattle.gas.specs.Model.{GasModel, states, particles, momentum, entry_place}

pub record SoundEntry (m : GasModel) (state outcome : ℕ) : Type 0 where
  pub below : outcome < states m
  pub counted : particles m outcome ≡ particles m state
  pub balanced : momentum m outcome ≡ momentum m state

-- a sound table has an entry for each state under each twist, no more, and all are sound
pub record SoundTable (m : GasModel) (entries : List ℕ) : Type 0 where
  pub full : length entries ≡ 2 * states m
  pub each : (b : Bool) (n : ℕ) → n < states m → SoundEntry m n (slice_index entries (entry_place m b n))
