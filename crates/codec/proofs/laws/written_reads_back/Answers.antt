use Rattle.codec.proofs.Tunnels.{written_reads_back}
use Rattle.codec.proofs.laws.written_reads_back.Goals as goal

pub returns : goal.returns
returns c = written_reads_back
