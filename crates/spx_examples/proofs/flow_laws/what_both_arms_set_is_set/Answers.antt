use Rattle.spx_examples.proofs.Findings.{both_clean}
use Rattle.spx_examples.proofs.flow_laws.what_both_arms_set_is_set.Goals as goal

pub returns : goal.returns
returns c = both_clean
