use Rattle.spx_examples.proofs.Weakened.{post_passes, post_keeps}
use Rattle.spx_examples.proofs.weakening_laws.a_postcondition_may_pass_the_limit.Goals as goal

pub returns-clause-passes : goal.returns-clause-passes
returns-clause-passes c = post_passes

pub returns-clause-keeps : goal.returns-clause-keeps
returns-clause-keeps c = post_keeps
