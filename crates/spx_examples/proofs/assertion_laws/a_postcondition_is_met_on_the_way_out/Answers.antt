use Rattle.spx_examples.proofs.Assertions.{promise_holds, promise_fails, unset_is_first}
use Rattle.spx_examples.proofs.assertion_laws.a_postcondition_is_met_on_the_way_out.Goals as goal

pub returns-clause-holds : goal.returns-clause-holds
returns-clause-holds c = promise_holds

pub returns-clause-fails : goal.returns-clause-fails
returns-clause-fails c = promise_fails

pub returns-clause-unset : goal.returns-clause-unset
returns-clause-unset c = unset_is_first
