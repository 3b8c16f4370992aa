use Rattle.spx_examples.proofs.Findings.{missing}
use Rattle.spx_examples.proofs.flow_laws.an_undeclared_flow_is_missing.Goals as goal

pub returns : goal.returns
returns c = missing
