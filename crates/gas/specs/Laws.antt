-- What every gas owes.
use Rattle.std.specs.Prelude.{◌≡◌, ℕ, ◌*◌, ◌<◌, ◌≤◌, pos, unsigned_abs}
use Rattle.lattice.specs.Vectors.{negated, still}
use Rattle.lattice.specs.Grids.{Lawful}
use Rattle.gas.specs.Model.{GasModel}
use Rattle.gas.specs.Soundness.{SoundTable}

pub record GasLaws (m : GasModel) : Type 0 where
  pub one_byte : m.kind < 256
  pub some : 1 ≤ m.channels
  pub few : m.channels ≤ 7
  -- opposite twice is the channel itself
  pub opposite_in : (q : ℕ) → q < m.channels → m.opposite q < m.channels
  pub opposite_twice : (q : ℕ) → q < m.channels → m.opposite (m.opposite q) ≡ q
  -- the opposite's vector is the negated one
  pub opposite_vector : (q : ℕ) → q < m.channels → m.vector (m.opposite q) ≡ negated (m.vector q)
  -- the numbers of a vector lie from -2 to 2
  pub short : (q : ℕ) → q < m.channels → (unsigned_abs (m.vector q).along ≤ 2) × (unsigned_abs (m.vector q).across ≤ 2)
  -- channel 0 is east: it does not lead across
  pub east : (m.vector 0).across ≡ pos 0
  -- moving by a channel, and then by its opposite, ends in the first cell
  pub neighbour_in : (w h q i : ℕ) → Lawful w h → q < m.channels → i < w * h → m.neighbour w h q i < w * h
  pub there_and_back : (w h q i : ℕ) → Lawful w h → q < m.channels → i < w * h → m.neighbour w h (m.opposite q) (m.neighbour w h q i) ≡ i
  -- beyond its channels or the grid, a gas gives back what it was asked, and the vector (0, 0)
  pub opposite_beyond : (q : ℕ) → m.channels ≤ q → m.opposite q ≡ q
  pub vector_beyond : (q : ℕ) → m.channels ≤ q → m.vector q ≡ still
  pub channel_beyond : (w h q i : ℕ) → m.channels ≤ q → m.neighbour w h q i ≡ i
  pub cell_beyond : (w h q i : ℕ) → w * h ≤ i → m.neighbour w h q i ≡ i
  -- the house rules are sound
  pub house_sound : SoundTable m m.house
