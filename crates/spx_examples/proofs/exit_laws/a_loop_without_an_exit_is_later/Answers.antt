use Rattle.spx_examples.proofs.Exits.{never_ends}
use Rattle.spx_examples.proofs.exit_laws.a_loop_without_an_exit_is_later.Goals as goal

pub returns : goal.returns
returns c = never_ends
