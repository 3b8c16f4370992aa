use Rattle.spx_examples.proofs.LoopFlows.{past, read_after, read_in}
use Rattle.spx_examples.proofs.loop_laws.a_loop_may_have_no_turn.Goals as goal

pub returns-clause-past : goal.returns-clause-past
returns-clause-past c = past

pub returns-clause-read_after : goal.returns-clause-read_after
returns-clause-read_after c = read_after

pub returns-clause-read_in : goal.returns-clause-read_in
returns-clause-read_in c = read_in
