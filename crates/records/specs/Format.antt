-- A record is its kind in one byte, the length of its payload in three, its check in four, and then the payload; numbers stand lowest byte first.
use Rattle.std.specs.Prelude.{ℕ, zero, suc, ◌+◌, ◌*◌, ◌/◌, ◌%◌, ◌^◌, ◌<◌, List, [], ◌∷◌, ◌++◌, length, take, drop, slice_index}
use Rattle.std.specs.List.{AllByRecursion}
use Rattle.records.specs.declared.format.Header.{Header}

abbrev pub Bytes : List ℕ → Type 0
Bytes bs = AllByRecursion (λ b. b < 256) bs

-- the number that bytes write
abbrev pub number : List ℕ → ℕ
number [] = 0
number (b ∷ bs) = b + 256 * number bs

-- a number in so many bytes
abbrev pub le : ℕ → ℕ → List ℕ
le zero x = []
le (suc w) x = (x % 256) ∷ le w (x / 256)

-- the header that the first eight bytes write
abbrev pub header_of : List ℕ → Header
header_of bs = record { kind = slice_index bs 0; length = number (take 3 (drop 1 bs)); check = number (take 4 (drop 4 bs)) }

-- the sum of (i + 1) × byte i, counting i from `from`
abbrev pub weighed : ℕ → List ℕ → ℕ
weighed from [] = 0
weighed from (b ∷ bs) = (from + 1) * b + weighed (from + 1) bs

-- a payload's check
abbrev pub check_of : List ℕ → ℕ
check_of bs = (1 + weighed 0 bs) % 2 ^ 32

-- the bytes of one record
unfoldable pub record_of : ℕ → List ℕ → List ℕ
record_of kind payload = kind ∷ (le 3 (length payload) ++ (le 4 (check_of payload) ++ payload))
