use Rattle.spx_examples.proofs.Weakened.{first_check_fails, second_check_passes}
use Rattle.spx_examples.proofs.weakening_laws.a_check_that_fails_ends_the_run.Goals as goal

pub returns-clause-keeps : goal.returns-clause-keeps
returns-clause-keeps c = first_check_fails

pub returns-clause-passes : goal.returns-clause-passes
returns-clause-passes c = second_check_passes
