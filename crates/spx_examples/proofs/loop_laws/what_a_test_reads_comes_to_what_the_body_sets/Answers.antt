use Rattle.spx_examples.proofs.LoopFlows.{decides}
use Rattle.spx_examples.proofs.loop_laws.what_a_test_reads_comes_to_what_the_body_sets.Goals as goal

pub returns : goal.returns
returns c = decides
