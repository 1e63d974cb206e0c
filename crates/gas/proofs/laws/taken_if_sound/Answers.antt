use Rattle.gas.proofs.Tables.{taken_if_sound}
use Rattle.gas.proofs.laws.taken_if_sound.Goals as goal

pub returns : goal.returns
returns c = taken_if_sound
