use Rattle.records.proofs.Sifts as theorem
use Rattle.records.proofs.laws.sifted_files_are_kept_records.Goals as goal

pub returns : goal.returns
returns c = theorem.sifts
