use Rattle.spx_examples.proofs.LoopCuts.{counting_cut, asserting_cut}
use Rattle.spx_examples.proofs.loop_laws.a_loop_has_a_cut.Goals as goal

pub returns-clause-without : goal.returns-clause-without
returns-clause-without c = counting_cut

pub returns-clause-own : goal.returns-clause-own
returns-clause-own c = asserting_cut
