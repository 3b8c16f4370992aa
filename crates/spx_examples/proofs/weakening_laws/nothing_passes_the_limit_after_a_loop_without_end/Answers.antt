use Rattle.spx_examples.proofs.Weakened.{nothing_after_endless}
use Rattle.spx_examples.proofs.weakening_laws.nothing_passes_the_limit_after_a_loop_without_end.Goals as goal

pub returns : goal.returns
returns c = nothing_after_endless
