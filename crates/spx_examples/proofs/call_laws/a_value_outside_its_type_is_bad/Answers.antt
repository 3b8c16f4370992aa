use Rattle.spx_examples.proofs.Variants.{natural_typed, stays_natural, leaves_natural}
use Rattle.spx_examples.proofs.Locals.{literal_refused, literal_past_last}
use Rattle.spx_examples.proofs.call_laws.a_value_outside_its_type_is_bad.Goals as goal

pub returns-clause-typed : goal.returns-clause-typed
returns-clause-typed c = natural_typed

pub returns-clause-inside : goal.returns-clause-inside
returns-clause-inside c = stays_natural

pub returns-clause-outside : goal.returns-clause-outside
returns-clause-outside c = leaves_natural

pub returns-clause-refused : goal.returns-clause-refused
returns-clause-refused c = literal_refused

pub returns-clause-literal : goal.returns-clause-literal
returns-clause-literal c = literal_past_last
