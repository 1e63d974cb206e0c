-- What a twist source is made of. All that it remembers is its mark, a number of 32 bits.
use Rattle.std.specs.Prelude.{◌≡◌, ℕ, ◌^◌, ◌<◌, Bool, true, cond}

pub record TwistModel : Type 0 where
  pub kind : ℕ
  -- which marks are lawful
  pub lawful : ℕ → Bool
  pub first : ℕ
  -- bit m t c r: the answer at mark m in step t for the cell in column c and row r
  pub bit : ℕ → ℕ → ℕ → ℕ → Bool
  -- the mark after an answer at this mark
  pub next : ℕ → ℕ

-- what every source owes
pub record TwistLaws (m : TwistModel) : Type 0 where
  pub one_byte : m.kind < 256
  pub small : (k : ℕ) → m.lawful k ≡ true → k < 2 ^ 32
  pub first_lawful : m.lawful m.first ≡ true
  pub next_lawful : (k : ℕ) → m.lawful k ≡ true → m.lawful (m.next k) ≡ true

-- the mark after a new one was offered: that one if it is lawful, and otherwise the old
abbrev pub mark_after : TwistModel → ℕ → ℕ → ℕ
mark_after m old offered = cond (m.lawful offered) offered old
