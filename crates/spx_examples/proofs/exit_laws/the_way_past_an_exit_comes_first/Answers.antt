use Rattle.spx_examples.proofs.ExitPaths.{alone, arm}
use Rattle.spx_examples.proofs.exit_laws.the_way_past_an_exit_comes_first.Goals as goal

pub returns-clause-alone : goal.returns-clause-alone
returns-clause-alone c = alone

pub returns-clause-arm : goal.returns-clause-arm
returns-clause-arm c = arm
