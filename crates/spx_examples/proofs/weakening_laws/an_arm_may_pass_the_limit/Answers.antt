use Rattle.spx_examples.proofs.Weakened.{arm_passes, past_arm_keeps}
use Rattle.spx_examples.proofs.weakening_laws.an_arm_may_pass_the_limit.Goals as goal

pub returns-clause-passes : goal.returns-clause-passes
returns-clause-passes c = arm_passes

pub returns-clause-keeps : goal.returns-clause-keeps
returns-clause-keeps c = past_arm_keeps
