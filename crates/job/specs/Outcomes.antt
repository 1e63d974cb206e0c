-- The outcome of a judgement: the first fault, or what was judged.
use Rattle.std.specs.Prelude.{◌≡◌, Some, None, Ok, Err, Option, Result}
use Rattle.faults.specs.declared.job.JobFault.{JobFault}

-- refused with the fault, if there is one, and otherwise done with what P says
abbrev pub Judged : {A : Type 0} → Option JobFault → (A → Type 0) → Result A JobFault → Type 0
Judged (Some f) P r = r ≡ Err f
Judged None P (Ok x) = P x
Judged None P (Err f) = ⊥

abbrev pub judgment : Option JobFault → Result (Unit {0}) JobFault
judgment (Some f) = Err f
judgment None = Ok tt
