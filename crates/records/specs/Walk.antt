-- The file is judged record by record as far as the end record, each for a cut, its check, its kind and its order, and then for the file's ending.
use Rattle.std.specs.Prelude.{◌≡◌, ℕ, zero, suc, ◌+◌, ◌<◌, ◌≤◌, cond, List, length, take, drop, Some, None, Option, Ok, Err, Result, ◌==◌, nat_lt}
use Rattle.faults.specs.declared.record.RecordFault.{RecordFault}
use Rattle.faults.specs.declared.record.RecordFault.TheVariants.{Size, Cut, Check, Kind, Order, Ending}
use Rattle.records.specs.declared.kinds.Kind.{Kind as KnownKind}
use Rattle.records.specs.declared.sequence.OrderFault.{OrderFault}
use Rattle.records.specs.declared.sequence.OrderFault.TheVariants.{Unknown, NotNext}
use Rattle.records.specs.declared.payloads.Place.{Place}
use Rattle.records.specs.declared.payloads.Places.{Places}
use Rattle.records.specs.declared.walking.Cursor.{Cursor}
use Rattle.std.specs.declared.ops.ControlFlow.{ControlFlow}
use Rattle.std.specs.declared.ops.ControlFlow.TheVariants.{Continue, Break}
use Rattle.records.specs.Format.{header_of, check_of}
use Rattle.records.specs.Orders.{begun, answer, moved}

-- no file is longer
abbrev pub largest_file : ℕ
largest_file = 65536

-- how many bytes the record at the front of bs takes up, and which are its payload
abbrev pub whole_of : List ℕ → ℕ
whole_of bs = 8 + (header_of bs).length

abbrev pub payload_of : List ℕ → List ℕ
payload_of bs = take (header_of bs).length (drop 8 bs)

-- the place of its payload
abbrev pub place_at : Cursor → ℕ → Place
place_at c n = record { «record» = c.count; start = c.at + 8; length = n }

abbrev pub place_of : Cursor → List ℕ → Place
place_of c bs = place_at c (header_of bs).length

-- the place is noted under the record's kind
abbrev pub noted : Places → ℕ → Place → Places
noted p k x = record {
  head = cond (k == 2) x p.head;
  rules = cond (k == 3) x p.rules;
  map = cond (k == 4) x p.map;
  field = cond (k == 5) x p.field;
  book = cond (k == 6) x p.book;
  end = cond (k == 1) x p.end;
}

-- what one record leads to: the walk goes on behind it, or is done
abbrev pub Turn : Type 0
Turn = ControlFlow Places Cursor

-- the walk behind a record whose payload has n bytes
abbrev pub behind : Cursor → ℕ → Option KnownKind → Places → Cursor
behind c n next places = record { at = c.at + 8 + n; count = c.count + 1; order = record { next = next }; places = places }

abbrev pub past : Cursor → List ℕ → Places → Cursor
past c bs places = behind c (header_of bs).length (moved c.order.next (header_of bs).kind) places

-- the end record ends the walk, if the file ends with it
abbrev pub taken : Cursor → List ℕ → Places → Result Turn RecordFault
taken c bs places = cond ((header_of bs).kind == 1)
    (cond (length bs == whole_of bs) (Ok (Break places)) (Err (Ending (c.count + 1))))
    (Ok (Continue (past c bs places)))

-- a whole record that fits its check, by what the order answers to its kind
abbrev pub placed : Cursor → List ℕ → Result (Option KnownKind) OrderFault → Result Turn RecordFault
placed c bs (Err Unknown) = Err (Kind c.count)
placed c bs (Err NotNext) = Err (Order c.count)
placed c bs (Ok None) = Ok (Continue (past c bs c.places))
placed c bs (Ok (Some kind)) = taken c bs (noted c.places (header_of bs).kind (place_of c bs))

-- the record at the front of bs, which are the file from this record on
abbrev pub turn : Cursor → List ℕ → Result Turn RecordFault
turn c bs = cond (length bs == 0) (Err (Ending c.count))
    (cond (nat_lt (length bs) 8) (Err (Cut c.count))
    (cond (nat_lt (length bs) (whole_of bs)) (Err (Cut c.count))
    (cond (check_of (payload_of bs) == (header_of bs).check) (placed c bs (answer c.order.next (header_of bs).kind)) (Err (Check c.count)))))

-- a turn ends the walk, or the walk goes on behind the record
abbrev pub goes_on : (Cursor → Result Places RecordFault) → Result Turn RecordFault → Result Places RecordFault
goes_on next (Err e) = Err e
goes_on next (Ok (Break places)) = Ok places
goes_on next (Ok (Continue c)) = next c

-- no more than n records
abbrev pub walked_from : List ℕ → ℕ → Cursor → Result Places RecordFault
walked_from file zero c = Err Size
walked_from file (suc n) c = goes_on (walked_from file n) (turn c (drop c.at file))

-- what is noted before the first record
abbrev pub nowhere : Place
nowhere = record { «record» = 0; start = 0; length = 0 }

abbrev pub begin : Cursor
begin = record { at = 0; count = 0; order = begun; places = record { head = nowhere; rules = nowhere; map = nowhere; field = nowhere; book = nowhere; end = nowhere } }

-- the whole file
unfoldable pub walked : ℕ → List ℕ → Result Places RecordFault
walked limit file = cond (length file == 0) (Err Size) (cond (nat_lt limit (length file)) (Err Size) (walked_from file (length file + 1) begin))

-- a record takes up bytes, and no more than there are
abbrev pub Goes : Cursor → List ℕ → Turn → Type 0
Goes c bs (Continue n) = (c.at < n.at) × (n.at ≤ c.at + length bs) × (n.count ≡ c.count + 1)
Goes c bs (Break places) = Unit {0}
