-- What the program answers to its input: the report of the job, or the refusal of the first line or of the job.
use Rattle.std.specs.Prelude.{ℕ, List, Ok, Err, Result}
use Rattle.faults.specs.declared.call.CallFault.{CallFault}
use Rattle.pairing.specs.Pairings.{chosen}
use Rattle.front.specs.FirstLine.{first_line}
use Rattle.front.specs.Lines.{refused_line}

-- a report is printed as it is, and a refusal as its line
abbrev pub printed : Result (List ℕ) CallFault → List ℕ
printed (Ok text) = text
printed (Err f) = refused_line f

-- the job behind the first line
abbrev pub judged_from : Result ((ℕ × ℕ) × List ℕ) CallFault → Result (List ℕ) CallFault
judged_from (Err f) = Err f
judged_from (Ok ((steps, patch), file)) = chosen steps patch file

abbrev pub answer_to : List ℕ → List ℕ
answer_to input = printed (judged_from (first_line input))
