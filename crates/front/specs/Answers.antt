-- What the program answers to its input: the refusal of the first line or of the file's records, or how many records it judged.
use Rattle.std.specs.Prelude.{ℕ, ◌+◌, List, Ok, Err, Result}
use Rattle.faults.specs.declared.record.RecordFault.{RecordFault}
use Rattle.faults.specs.declared.job.JobFault.{JobFault}
use Rattle.faults.specs.declared.job.JobFault.TheVariants.{Record}
use Rattle.faults.specs.declared.call.CallFault.{CallFault}
use Rattle.faults.specs.declared.call.CallFault.TheVariants.{Job}
use Rattle.records.specs.declared.payloads.Places.{Places}
use Rattle.records.specs.Walk.{walked, largest_file}
use Rattle.front.specs.FirstLine.{first_line}
use Rattle.front.specs.Lines.{refused_line, records_line}

-- how many records were judged: the end record is the last
abbrev pub count_of : Result Places RecordFault → Result ℕ JobFault
count_of (Ok places) = Ok (places.end.«record» + 1)
count_of (Err f) = Err (Record f)

abbrev pub records_in : List ℕ → Result ℕ JobFault
records_in file = count_of (walked largest_file file)

-- a fault of the job comes up whole
abbrev pub passed_up : Result ℕ JobFault → Result ℕ CallFault
passed_up (Ok n) = Ok n
passed_up (Err f) = Err (Job f)

abbrev pub judged_from : Result ((ℕ × ℕ) × List ℕ) CallFault → Result ℕ CallFault
judged_from (Err f) = Err f
judged_from (Ok (line, file)) = passed_up (records_in file)

abbrev pub judged : List ℕ → Result ℕ CallFault
judged input = judged_from (first_line input)

abbrev pub line_for : Result ℕ CallFault → List ℕ
line_for (Ok n) = records_line n
line_for (Err f) = refused_line f

abbrev pub answer_to : List ℕ → List ℕ
answer_to input = line_for (judged input)
