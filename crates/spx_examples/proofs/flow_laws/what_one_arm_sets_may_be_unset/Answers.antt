use Rattle.spx_examples.proofs.Findings.{one_arm}
use Rattle.spx_examples.proofs.flow_laws.what_one_arm_sets_may_be_unset.Goals as goal

pub returns : goal.returns
returns c = one_arm
