-- The faults of the record layer: the file's layout, before any payload is read.
-- All are of layer 1. Each but the first names its record, counted from 0 with the skipped ones; none has an offset.
use Rattle.std.specs.Prelude.{ℕ}
use Rattle.faults.specs.declared.record.RecordFault.{RecordFault}
use Rattle.faults.specs.declared.record.RecordFault.TheVariants.{Size, Cut, Check, Kind, Order, Ending}

-- 1 the file is empty or too long; 2 it ends inside this record; 3 the check does not fit;
-- 4 the kind is no kind; 5 the kind is not next in order; 6 the end record is missing or not last
abbrev pub record_number : RecordFault → ℕ
record_number Size = 1
record_number (Cut r) = 2
record_number (Check r) = 3
record_number (Kind r) = 4
record_number (Order r) = 5
record_number (Ending r) = 6

-- the record that the fault names; of a missing or early end the count of the records so far
abbrev pub record_record : RecordFault → ℕ
record_record Size = 0
record_record (Cut r) = r
record_record (Check r) = r
record_record (Kind r) = r
record_record (Order r) = r
record_record (Ending r) = r
