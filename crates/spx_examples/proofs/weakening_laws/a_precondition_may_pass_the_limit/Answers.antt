use Rattle.spx_examples.proofs.Weakened.{pre_passes, pre_keeps, pre_fails_first, pre_is_bad}
use Rattle.spx_examples.proofs.weakening_laws.a_precondition_may_pass_the_limit.Goals as goal

pub returns-clause-passes : goal.returns-clause-passes
returns-clause-passes c = pre_passes

pub returns-clause-keeps : goal.returns-clause-keeps
returns-clause-keeps c = pre_keeps

pub returns-clause-keeps_below : goal.returns-clause-keeps_below
returns-clause-keeps_below c = pre_fails_first

pub returns-clause-fails_below : goal.returns-clause-fails_below
returns-clause-fails_below c = pre_is_bad
