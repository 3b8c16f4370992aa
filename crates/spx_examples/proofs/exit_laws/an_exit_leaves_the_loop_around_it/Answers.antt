use Rattle.spx_examples.proofs.Exits.{half, later, inner, with_step}
use Rattle.spx_examples.proofs.exit_laws.an_exit_leaves_the_loop_around_it.Goals as goal

pub returns-clause-half : goal.returns-clause-half
returns-clause-half c = half

pub returns-clause-later : goal.returns-clause-later
returns-clause-later c = later

pub returns-clause-inner : goal.returns-clause-inner
returns-clause-inner c = inner

pub returns-clause-with_step : goal.returns-clause-with_step
returns-clause-with_step c = with_step
