use Rattle.spx_examples.proofs.Findings.{unused}
use Rattle.spx_examples.proofs.flow_laws.a_pair_that_does_not_flow_is_unused.Goals as goal

pub returns : goal.returns
returns c = unused
