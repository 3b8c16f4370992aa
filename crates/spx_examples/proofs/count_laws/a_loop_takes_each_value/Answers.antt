use Rattle.spx_examples.proofs.CountedLoops.{up, down, later}
use Rattle.spx_examples.proofs.count_laws.a_loop_takes_each_value.Goals as goal

pub returns-clause-up : goal.returns-clause-up
returns-clause-up c = up

pub returns-clause-down : goal.returns-clause-down
returns-clause-down c = down

pub returns-clause-later : goal.returns-clause-later
returns-clause-later c = later
