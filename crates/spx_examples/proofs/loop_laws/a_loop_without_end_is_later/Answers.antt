use Rattle.spx_examples.proofs.Loops.{endless_is_later}
use Rattle.spx_examples.proofs.loop_laws.a_loop_without_end_is_later.Goals as goal

pub returns : goal.returns
returns c = endless_is_later
