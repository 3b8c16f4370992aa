use Rattle.std.proofs.Common.{refl}
use denote.Hole.Carrier.{hidden}
use Rattle.spx_tree.specs.declared.expression.Expr.TheBlock.{hidden-the_row-Expr-0, hidden-the_row-Expr-1}
use Rattle.spx_core.specs.Regions.{standard}
use Rattle.spx_examples.proofs.NameBreaches.{breach_is}
use Rattle.spx_examples.proofs.name_rule_laws.rules_on_names_come_in_the_order_of_the_text.Goals as goal

pub returns-clause-body : goal.returns-clause-body
unfolding standard hidden-the_row-Expr-0 hidden-the_row-Expr-1 hidden
returns-clause-body c = breach_is _ _ _ _ refl

pub returns-clause-precondition : goal.returns-clause-precondition
unfolding standard hidden-the_row-Expr-0 hidden-the_row-Expr-1 hidden
returns-clause-precondition c = breach_is _ _ _ _ refl

pub returns-clause-postcondition : goal.returns-clause-postcondition
unfolding standard hidden-the_row-Expr-0 hidden-the_row-Expr-1 hidden
returns-clause-postcondition c = breach_is _ _ _ _ refl
