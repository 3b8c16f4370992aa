use Rattle.std.proofs.Common.{refl}
use Rattle.spx_examples.specs.Flag.{positive}
use Rattle.spx_examples.proofs.VariableBreaches.{breach_reading, branch_is}
use Rattle.spx_examples.proofs.variable_rule_laws.rules_on_variables_have_an_order.Goals as goal

pub returns-clause-u11 : goal.returns-clause-u11
returns-clause-u11 c = breach_reading _ _ _ _ _ refl refl (branch_is positive)

pub returns-clause-u2 : goal.returns-clause-u2
returns-clause-u2 c = breach_reading _ _ _ _ _ refl refl (branch_is positive)
