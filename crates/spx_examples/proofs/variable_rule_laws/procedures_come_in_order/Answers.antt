use Rattle.std.proofs.Common.{refl}
use Rattle.spx_examples.specs.Flag.{positive}
use Rattle.spx_examples.proofs.VariableBreaches.{breach_is, branch_is}
use Rattle.spx_examples.proofs.variable_rule_laws.procedures_come_in_order.Goals as goal

pub returns : goal.returns
returns c = breach_is _ _ _ _ refl (branch_is positive)
