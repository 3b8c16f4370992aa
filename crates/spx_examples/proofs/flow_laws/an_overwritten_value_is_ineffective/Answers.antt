use Rattle.spx_examples.proofs.Findings.{overwritten}
use Rattle.spx_examples.proofs.flow_laws.an_overwritten_value_is_ineffective.Goals as goal

pub returns : goal.returns
returns c = overwritten
