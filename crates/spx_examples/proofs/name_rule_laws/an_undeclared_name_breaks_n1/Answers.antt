use Rattle.std.proofs.Common.{refl}
use denote.Hole.Carrier.{hidden}
use Rattle.spx_tree.specs.declared.expression.Expr.TheBlock.{hidden-the_row-Expr-0, hidden-the_row-Expr-1}
use Rattle.spx_core.specs.Regions.{standard}
use Rattle.spx_examples.proofs.NameBreaches.{breach_is}
use Rattle.spx_examples.proofs.name_rule_laws.an_undeclared_name_breaks_n1.Goals as goal

pub returns-clause-right_side : goal.returns-clause-right_side
unfolding standard hidden-the_row-Expr-0 hidden-the_row-Expr-1 hidden
returns-clause-right_side c = breach_is _ _ _ _ refl

pub returns-clause-target : goal.returns-clause-target
unfolding standard hidden-the_row-Expr-0 hidden-the_row-Expr-1 hidden
returns-clause-target c = breach_is _ _ _ _ refl

pub returns-clause-prefix : goal.returns-clause-prefix
unfolding standard hidden-the_row-Expr-0 hidden-the_row-Expr-1 hidden
returns-clause-prefix c = breach_is _ _ _ _ refl

pub returns-clause-precondition : goal.returns-clause-precondition
unfolding standard hidden-the_row-Expr-0 hidden-the_row-Expr-1 hidden
returns-clause-precondition c = breach_is _ _ _ _ refl

pub returns-clause-declared : goal.returns-clause-declared
unfolding standard hidden-the_row-Expr-0 hidden-the_row-Expr-1 hidden
returns-clause-declared c = breach_is _ _ _ _ refl
