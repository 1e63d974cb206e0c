-- The square gas is tried, then the hexagonal, each with parity and then the register. The first that is not refused because of its kinds answers, or the last.
use Rattle.std.specs.Prelude.{ℕ, Bool, false, cond, List, Ok, Err, Result, ◌==◌}
use Rattle.gas.specs.Model.{GasModel}
use Rattle.square.specs.Square.{square}
use Rattle.hexagonal.specs.Hexagonal.{hexagonal}
use Rattle.twist.specs.Kinds.{parity, register}
use Rattle.faults.specs.declared.call.CallFault.{CallFault}
use Rattle.faults.specs.Call.{number}
use Rattle.pairing.specs.Jobs.{job_outcome}

-- whether a job was refused because a kind is not the run's
abbrev pub foreign : {A : Type 0} → Result A CallFault → Bool
foreign (Ok x) = false
foreign (Err f) = number f == 8

-- the first outcome, unless it is foreign
abbrev pub unless_foreign : {A : Type 0} → Result A CallFault → Result A CallFault → Result A CallFault
unless_foreign r later = cond (foreign r) later r

-- on one gas, with parity and then the register
abbrev pub chosen_on : GasModel → ℕ → ℕ → List ℕ → Result (List ℕ) CallFault
chosen_on gas k b file = unless_foreign (job_outcome gas parity k b file) (job_outcome gas register k b file)

-- on the square gas, and then the hexagonal
abbrev pub chosen : ℕ → ℕ → List ℕ → Result (List ℕ) CallFault
chosen k b file = unless_foreign (chosen_on square k b file) (chosen_on hexagonal k b file)
