use Rattle.calls.proofs.Beginnings.{open_begins, blank_begins}
use Rattle.calls.proofs.laws.law_over_logs.Goals as goal

pub returns : goal.returns
returns c = (open_begins, blank_begins)
