use Rattle.spx_examples.proofs.AssertionCuts.{import_known}
use Rattle.spx_examples.proofs.assertion_laws.what_is_known_after_a_cut.Goals as goal

pub returns-clause-precondition : goal.returns-clause-precondition
returns-clause-precondition c = import_known
