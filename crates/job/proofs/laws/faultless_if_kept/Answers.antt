use Rattle.job.proofs.Keeping.{keeps, keeps_none}
use Rattle.job.proofs.laws.faultless_if_kept.Goals as goal

pub returns : goal.returns
returns c = λ gas twist ps. (keeps gas twist ps, keeps_none gas twist ps)
