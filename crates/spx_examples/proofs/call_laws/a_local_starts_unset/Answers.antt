use Rattle.spx_examples.proofs.Locals.{value_is_unset, condition_is_unset}
use Rattle.spx_examples.proofs.call_laws.a_local_starts_unset.Goals as goal

pub returns-clause-in_value : goal.returns-clause-in_value
returns-clause-in_value c = value_is_unset

pub returns-clause-in_condition : goal.returns-clause-in_condition
returns-clause-in_condition c = condition_is_unset
