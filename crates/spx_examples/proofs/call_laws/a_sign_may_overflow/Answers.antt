use Rattle.spx_examples.proofs.Locals.{negates, negation_overflows}
use Rattle.spx_examples.proofs.call_laws.a_sign_may_overflow.Goals as goal

pub returns-clause-from_41 : goal.returns-clause-from_41
returns-clause-from_41 c = negates

pub returns-clause-from_first : goal.returns-clause-from_first
returns-clause-from_first c = negation_overflows
