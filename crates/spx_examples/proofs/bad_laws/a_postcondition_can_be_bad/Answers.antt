use Rattle.spx_examples.proofs.Assertions.{promise_fails}
use Rattle.spx_examples.proofs.BadRuns.{promise_starts, promise_is_false}
use Rattle.spx_examples.proofs.bad_laws.a_postcondition_can_be_bad.Goals as goal

pub returns-clause-start : goal.returns-clause-start
returns-clause-start c = promise_starts

pub returns-clause-bad : goal.returns-clause-bad
returns-clause-bad c = promise_fails

pub returns-clause-fails : goal.returns-clause-fails
returns-clause-fails c = promise_is_false
