use Rattle.hexagonal.proofs.Entries.{house_rules}
use Rattle.hexagonal.proofs.laws.house_rules_hold.Goals as goal

pub returns : goal.returns
returns c = house_rules
