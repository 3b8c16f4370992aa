use Rattle.std.proofs.Common.{refl}
use Rattle.spx_examples.specs.Increment.{place}
use Rattle.spx_examples.proofs.Statements.{null_is}
use Rattle.spx_examples.proofs.VariableBreaches.{breach_is}
use Rattle.spx_examples.proofs.variable_rule_laws.modes_agree_with_the_relation.Goals as goal

pub returns-clause-in_and_out : goal.returns-clause-in_and_out
returns-clause-in_and_out c = breach_is _ _ _ _ refl (null_is (place 5 4))

pub returns-clause-exchanged : goal.returns-clause-exchanged
returns-clause-exchanged c = breach_is _ _ _ _ refl (null_is (place 5 4))

pub returns-clause-kept : goal.returns-clause-kept
returns-clause-kept c = breach_is _ _ _ _ refl (null_is (place 5 4))
