use Rattle.spx_examples.proofs.Findings.{after_arm}
use Rattle.spx_examples.proofs.flow_laws.what_one_arm_sets_is_read_unset.Goals as goal

pub returns : goal.returns
returns c = after_arm
