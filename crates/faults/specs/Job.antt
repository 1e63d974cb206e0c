-- The faults of the job layer: what the payloads say, judged once every record stands.
-- Those of its own are of layer 2; a fault of the record layer keeps its layer 1 and all its numbers.
use Rattle.std.specs.Prelude.{ℕ}
use Rattle.faults.specs.declared.job.JobFault.{JobFault}
use Rattle.faults.specs.declared.job.JobFault.TheVariants.{Record, Length, GasKind, TwistKind, Width, Height, Area, Period, Steps, Mark, Entry, MapByte, FieldByte, Account}
use Rattle.faults.specs.Record.{record_number, record_record}

-- 7 the payload's length is wrong; 8 the gas kind or the twist kind is not the run's; 9 a number of the head breaks
-- its rule; 10 the twist mark is unlawful; 11 an entry is unsound; 12 a map byte, 13 a field byte, 14 an account number is out of range
abbrev pub job_number : JobFault → ℕ
job_number (Record f) = record_number f
job_number (Length r) = 7
job_number (GasKind r) = 8
job_number (TwistKind r) = 8
job_number (Width r) = 9
job_number (Height r) = 9
job_number (Area r) = 9
job_number (Period r) = 9
job_number (Steps r) = 9
job_number (Mark r) = 10
job_number (Entry r o) = 11
job_number (MapByte r o) = 12
job_number (FieldByte r o) = 13
job_number (Account r o) = 14

abbrev pub job_layer : JobFault → ℕ
job_layer (Record f) = 1
job_layer (Length r) = 2
job_layer (GasKind r) = 2
job_layer (TwistKind r) = 2
job_layer (Width r) = 2
job_layer (Height r) = 2
job_layer (Area r) = 2
job_layer (Period r) = 2
job_layer (Steps r) = 2
job_layer (Mark r) = 2
job_layer (Entry r o) = 2
job_layer (MapByte r o) = 2
job_layer (FieldByte r o) = 2
job_layer (Account r o) = 2

abbrev pub job_record : JobFault → ℕ
job_record (Record f) = record_record f
job_record (Length r) = r
job_record (GasKind r) = r
job_record (TwistKind r) = r
job_record (Width r) = r
job_record (Height r) = r
job_record (Area r) = r
job_record (Period r) = r
job_record (Steps r) = r
job_record (Mark r) = r
job_record (Entry r o) = r
job_record (MapByte r o) = r
job_record (FieldByte r o) = r
job_record (Account r o) = r

-- where in its payload: a head's number at its own place, and an area that is too large at the width's
abbrev pub job_offset : JobFault → ℕ
job_offset (Record f) = 0
job_offset (Length r) = 0
job_offset (GasKind r) = 0
job_offset (TwistKind r) = 1
job_offset (Width r) = 2
job_offset (Height r) = 4
job_offset (Area r) = 2
job_offset (Period r) = 6
job_offset (Steps r) = 8
job_offset (Mark r) = 12
job_offset (Entry r o) = o
job_offset (MapByte r o) = o
job_offset (FieldByte r o) = o
job_offset (Account r o) = o
