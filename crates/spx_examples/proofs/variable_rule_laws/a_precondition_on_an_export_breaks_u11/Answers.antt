use Rattle.std.proofs.Common.{refl}
use Rattle.spx_examples.proofs.Flag.{flag_command}
use Rattle.spx_examples.proofs.VariableBreaches.{breach_reading, true_obeys}
use Rattle.spx_examples.proofs.variable_rule_laws.a_precondition_on_an_export_breaks_u11.Goals as goal

pub returns-clause-export : goal.returns-clause-export
returns-clause-export c = breach_reading _ _ _ _ _ refl refl flag_command

pub returns-clause-import : goal.returns-clause-import
returns-clause-import c = breach_reading _ _ _ _ _ refl refl flag_command

pub returns-clause-literal : goal.returns-clause-literal
returns-clause-literal c = true_obeys
