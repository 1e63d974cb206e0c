-- What the program prints when it is refused, and how many records it judged.
use Rattle.std.specs.Prelude.{ℕ, List, ◌++◌, codes, decimal}
use Rattle.faults.specs.declared.call.CallFault.{CallFault}
use Rattle.faults.specs.Call.{refusal}

-- the refusal, as it is printed, and the line's end
abbrev pub refused_line : CallFault → List ℕ
refused_line f = refusal f ++ codes "\n"

abbrev pub records_line : ℕ → List ℕ
records_line n = codes "records " ++ (decimal n ++ codes "\n")
