use Rattle.spx_examples.proofs.Weakened.{check_passes, check_keeps, overflow_keeps, overflow_is_first}
use Rattle.spx_examples.proofs.weakening_laws.a_check_may_pass_the_limit.Goals as goal

pub returns-clause-passes : goal.returns-clause-passes
returns-clause-passes c = check_passes

pub returns-clause-keeps : goal.returns-clause-keeps
returns-clause-keeps c = check_keeps

pub returns-clause-keeps_last : goal.returns-clause-keeps_last
returns-clause-keeps_last c = overflow_keeps

pub returns-clause-fails_last : goal.returns-clause-fails_last
returns-clause-fails_last c = overflow_is_first
