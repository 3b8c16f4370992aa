use Rattle.spx_examples.proofs.Weakened.{exit_keeps, before_exit_passes, after_exit_passes}
use Rattle.spx_examples.proofs.weakening_laws.an_exit_goes_past_a_check.Goals as goal

pub returns-clause-keeps : goal.returns-clause-keeps
returns-clause-keeps c = exit_keeps

pub returns-clause-before : goal.returns-clause-before
returns-clause-before c = before_exit_passes

pub returns-clause-after : goal.returns-clause-after
returns-clause-after c = after_exit_passes
