use Rattle.spx_examples.proofs.Loops.{ended, later, no_turn, again}
use Rattle.spx_examples.proofs.loop_laws.a_loop_ends_within_its_bound.Goals as goal

pub returns-clause-ended : goal.returns-clause-ended
returns-clause-ended c = ended

pub returns-clause-later : goal.returns-clause-later
returns-clause-later c = later

pub returns-clause-no_turn : goal.returns-clause-no_turn
returns-clause-no_turn c = no_turn

pub returns-clause-again : goal.returns-clause-again
returns-clause-again c = again
