use Rattle.spx_examples.proofs.Findings.{of_local}
use Rattle.spx_examples.proofs.flow_laws.a_value_of_a_local_is_ineffective.Goals as goal

pub returns : goal.returns
returns c = of_local
