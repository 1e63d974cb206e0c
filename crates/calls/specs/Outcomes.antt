-- The outcome of a call: refused with a fault and everything as it was, or done with its answer and what it leaves.
use Rattle.std.specs.Prelude.{◌≡◌, Some, None, Ok, Err, Option, Result}
use Rattle.faults.specs.declared.call.CallFault.{CallFault}

abbrev pub reply : {A : Type 0} → Option CallFault → A → Result A CallFault
reply (Some f) answer = Err f
reply None answer = Ok answer

-- what a refused call left, or a done one
abbrev pub leaves : {A : Type 0} → Option CallFault → A → A → A
leaves (Some f) before after = before
leaves None before after = after

-- a judgement: refused with the fault, if there is one, and otherwise done with what P says
abbrev pub Judged : {A : Type 0} → Option CallFault → (A → Type 0) → Result A CallFault → Type 0
Judged (Some f) P r = r ≡ Err f
Judged None P (Ok x) = P x
Judged None P (Err f) = ⊥
