-- A head has sixteen bytes: gas kind 1, twist kind 1, W 2, H 2, fan period 2, step count 4, twist mark 4. Numbers stand lowest byte first.
use Rattle.std.specs.Prelude.{ℕ, List, take, drop, slice_index}
use Rattle.records.specs.Format.{number}
use Rattle.job.specs.declared.head.Head.{Head}

abbrev pub head_length : ℕ
head_length = 16

-- the number in n bytes from this offset on
abbrev pub number_at : List ℕ → ℕ → ℕ → ℕ
number_at bytes offset n = number (take n (drop offset bytes))

abbrev pub head_of : List ℕ → Head
head_of bytes = record {
  gas = slice_index bytes 0;
  twist = slice_index bytes 1;
  width = number_at bytes 2 2;
  height = number_at bytes 4 2;
  period = number_at bytes 6 2;
  steps = number_at bytes 8 4;
  mark = number_at bytes 12 4;
}
