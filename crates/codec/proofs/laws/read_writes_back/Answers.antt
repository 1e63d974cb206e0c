use Rattle.codec.proofs.Files.{read_writes_back}
use Rattle.codec.proofs.laws.read_writes_back.Goals as goal

pub returns : goal.returns
returns c = read_writes_back
