use Rattle.std.proofs.Common.{refl}
use Rattle.spx_examples.specs.Increment.{place}
use Rattle.spx_examples.proofs.Statements.{null_is}
use Rattle.spx_examples.proofs.VariableBreaches.{breach_is}
use Rattle.spx_examples.proofs.variable_rule_laws.a_formal_left_out_breaks_u7.Goals as goal

pub returns-clause-no_formals : goal.returns-clause-no_formals
returns-clause-no_formals c = breach_is _ _ _ _ refl (null_is (place 5 4))
