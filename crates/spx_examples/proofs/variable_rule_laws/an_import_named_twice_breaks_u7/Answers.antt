use Rattle.std.proofs.Common.{refl}
use Rattle.spx_examples.specs.Increment.{place}
use Rattle.spx_examples.proofs.Statements.{null_is}
use Rattle.spx_examples.proofs.VariableBreaches.{breach_is}
use Rattle.spx_examples.proofs.variable_rule_laws.an_import_named_twice_breaks_u7.Goals as goal

pub returns-clause-in_two_items : goal.returns-clause-in_two_items
returns-clause-in_two_items c = breach_is _ _ _ _ refl (null_is (place 5 4))
