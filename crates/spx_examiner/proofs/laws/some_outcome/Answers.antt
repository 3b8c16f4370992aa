use Rattle.spx_examiner.proofs.SomeOutcome.{some_outcome}
use Rattle.spx_examiner.proofs.laws.some_outcome.Goals as goal

pub returns : goal.returns
returns c = some_outcome c.laws_of_existence.ensures
