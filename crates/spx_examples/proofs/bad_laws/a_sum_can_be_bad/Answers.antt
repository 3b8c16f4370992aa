use Rattle.spx_examples.proofs.BadRuns.{sum_fails}
use Rattle.spx_examples.proofs.Refused.{starts, overflows}
use Rattle.spx_examples.proofs.bad_laws.a_sum_can_be_bad.Goals as goal

pub returns-clause-start : goal.returns-clause-start
returns-clause-start c = starts

pub returns-clause-bad : goal.returns-clause-bad
returns-clause-bad c = overflows

pub returns-clause-fails : goal.returns-clause-fails
returns-clause-fails c = sum_fails
