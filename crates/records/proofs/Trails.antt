-- Every walk stops behind records that it passed.
use Rattle.std.proofs.Common.{◌≡◌, ℕ, zero, suc, ◌-◌, ◌<◌, List, [], ◌∷◌, length, drop, Ok, Err, Result, refl, arith, length-drop, Continue, Break}
use Rattle.faults.specs.declared.record.RecordFault.{RecordFault}
use Rattle.records.specs.declared.payloads.Places.{Places}
use Rattle.records.specs.declared.walking.Cursor.{Cursor}
use Rattle.records.specs.Format.{Bytes}
use Rattle.records.specs.Walk.{Turn, turn, goes_on, walked_from}
use Rattle.records.specs.Files.{Rec}
use Rattle.records.proofs.Turns.{fits}
use Rattle.records.proofs.Passing.{Passed, stays, then_passed, front, passed, advances}

-- what the turn was at which the walk stopped
abbrev pub stopped : Result Places RecordFault → Result Turn RecordFault
stopped (Ok places) = Ok (Break places)
stopped (Err f) = Err f

pub record Trail (file : List ℕ) (c : Cursor) (r : Result Places RecordFault) : Type 0 where
  pub records : List Rec
  pub stop : Cursor
  pub passes : Passed file c stop records
  pub stops : turn stop (drop stop.at file) ≡ stopped r

-- every walk stops behind records that it passed
module _ (file : List ℕ) (all : Bytes file) where
  by_turn : (n : ℕ) (next : (m : Cursor) → length file - m.at < n → Trail file m (walked_from file n m)) (c : Cursor) (t : Result Turn RecordFault) → length file - c.at < suc n → turn c (drop c.at file) ≡ t → Trail file c (goes_on (walked_from file n) t)
  by_turn n next c (Err f) fuel is = record { records = []; stop = c; passes = stays file c; stops = is }
  by_turn n next c (Ok (Break places)) fuel is = record { records = []; stop = c; passes = stays file c; stops = is }
  by_turn n next c (Ok (Continue m)) fuel is =
      let f = fits c m (drop c.at file) is in
      let t = next m (omega (arith, advances file all c m is, length-drop c.at file)) in
      record { records = front file all c m is ∷ t.records; stop = t.stop; passes = then_passed file c m t.stop (front file all c m is ∷ []) t.records (passed file all c m is) t.passes; stops = t.stops }

  pub trail : (n : ℕ) (c : Cursor) → length file - c.at < n → Trail file c (walked_from file n c)
  trail zero c fuel = absurd (omega arith)
  trail (suc n) c fuel = by_turn n (trail n) c (turn c (drop c.at file)) fuel refl
