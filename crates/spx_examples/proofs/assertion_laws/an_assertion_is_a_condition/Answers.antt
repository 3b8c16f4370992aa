use Rattle.std.proofs.Common.{refl}
use denote.Hole.Carrier.{hidden}
use Rattle.spx_tree.specs.declared.expression.Expr.TheBlock.{hidden-the_row-Expr-0, hidden-the_row-Expr-1}
use Rattle.spx_core.specs.Regions.{standard}
use Rattle.spx_examples.proofs.NameBreaches.{breach_is, breach_of_assertion}
use Rattle.spx_examples.proofs.assertion_laws.an_assertion_is_a_condition.Goals as goal

pub returns-clause-post : goal.returns-clause-post
unfolding standard hidden-the_row-Expr-0 hidden-the_row-Expr-1 hidden
returns-clause-post c = breach_is _ _ _ _ refl

pub returns-clause-check : goal.returns-clause-check
unfolding standard hidden-the_row-Expr-0 hidden-the_row-Expr-1 hidden
returns-clause-check c = breach_of_assertion _ _ _ _ _ refl

pub returns-clause-left : goal.returns-clause-left
unfolding standard hidden-the_row-Expr-0 hidden-the_row-Expr-1 hidden
returns-clause-left c = breach_is _ _ _ _ refl

pub returns-clause-right : goal.returns-clause-right
unfolding standard hidden-the_row-Expr-0 hidden-the_row-Expr-1 hidden
returns-clause-right c = breach_of_assertion _ _ _ _ _ refl

pub returns-clause-conditions : goal.returns-clause-conditions
unfolding standard hidden-the_row-Expr-0 hidden-the_row-Expr-1 hidden
returns-clause-conditions c = breach_is _ _ _ _ refl
