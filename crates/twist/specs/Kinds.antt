-- The sources: parity, the register, and a source turned in odd steps.
use Rattle.std.specs.Prelude.{ℕ, ◌+◌, ◌/◌, ◌%◌, Bool, cond, not, ◌&&◌, ◌==◌, bit_xor, nat_le}
use Rattle.twist.specs.Model.{TwistModel}

abbrev pub odd : ℕ → Bool
odd n = n % 2 == 1

-- kind 1: the bit is (c + r + t) mod 2, and the mark is always 0
abbrev pub parity : TwistModel
parity = record {
  kind = 1;
  lawful = λ m. (m == 0);
  first = 0;
  bit = λ m t c r. odd (c + r + t);
  next = λ m. 0;
}

-- kind 2: a shift register of 16 bits with the taps 0xB400; the bit is the lowest of the mark
abbrev pub shifted : ℕ → ℕ
shifted m = cond (odd m) (bit_xor (m / 2) 0xB400) (m / 2)

abbrev pub register : TwistModel
register = record {
  kind = 2;
  lawful = λ m. nat_le 1 m && nat_le m 65535;
  first = 0xACE1;
  bit = λ m t c r. odd m;
  next = shifted;
}

-- the lower source's bit in even steps, and the other bit in odd ones
abbrev pub turned : TwistModel → TwistModel
turned s = record {
  kind = bit_xor s.kind 64;
  lawful = s.lawful;
  first = s.first;
  bit = λ m t c r. cond (odd t) (not (s.bit m t c r)) (s.bit m t c r);
  next = s.next;
}
