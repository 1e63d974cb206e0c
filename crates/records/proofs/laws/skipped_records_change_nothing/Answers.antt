use Rattle.records.proofs.Shifts as theorem
use Rattle.records.proofs.laws.skipped_records_change_nothing.Goals as goal

pub returns : goal.returns
returns c = theorem.skips_change_nothing
