use Rattle.spx_examiner.proofs.Reliable.{one_outcome}
use Rattle.spx_examiner.proofs.laws.one_outcome.Goals as goal

pub returns : goal.returns
returns c = one_outcome c.laws_below.ensures
