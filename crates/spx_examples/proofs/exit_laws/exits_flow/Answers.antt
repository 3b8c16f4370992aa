use Rattle.spx_examples.proofs.ExitFlows.{from_test, own}
use Rattle.spx_examples.proofs.exit_laws.exits_flow.Goals as goal

pub returns-clause-from_test : goal.returns-clause-from_test
returns-clause-from_test c = from_test

pub returns-clause-own : goal.returns-clause-own
returns-clause-own c = own
