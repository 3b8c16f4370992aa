use Rattle.spx_examples.proofs.Findings.{unused_in_check}
use Rattle.spx_examples.proofs.assertion_laws.nothing_flows_from_a_check.Goals as goal

pub returns : goal.returns
returns c = unused_in_check
