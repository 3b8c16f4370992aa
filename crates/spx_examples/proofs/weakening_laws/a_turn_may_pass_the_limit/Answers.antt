use Rattle.spx_examples.proofs.Weakened.{first_turn_keeps, first_turn_is_later, second_turn_passes}
use Rattle.spx_examples.proofs.weakening_laws.a_turn_may_pass_the_limit.Goals as goal

pub returns-clause-keeps : goal.returns-clause-keeps
returns-clause-keeps c = first_turn_keeps

pub returns-clause-later : goal.returns-clause-later
returns-clause-later c = first_turn_is_later

pub returns-clause-passes : goal.returns-clause-passes
returns-clause-passes c = second_turn_passes
