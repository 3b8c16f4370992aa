use Rattle.spx_examples.proofs.IncrementRuns.{refused}
use Rattle.spx_examples.proofs.call_laws.a_false_precondition_is_bad.Goals as goal

pub returns : goal.returns
returns c = refused
