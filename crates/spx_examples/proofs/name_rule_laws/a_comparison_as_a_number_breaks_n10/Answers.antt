use Rattle.std.proofs.Common.{refl}
use denote.Hole.Carrier.{hidden}
use Rattle.spx_tree.specs.declared.expression.Expr.TheBlock.{hidden-the_row-Expr-0, hidden-the_row-Expr-1}
use Rattle.spx_core.specs.Regions.{standard}
use Rattle.spx_examples.proofs.NameBreaches.{breach_is}
use Rattle.spx_examples.proofs.name_rule_laws.a_comparison_as_a_number_breaks_n10.Goals as goal

pub returns-clause-right_side : goal.returns-clause-right_side
unfolding standard hidden-the_row-Expr-0 hidden-the_row-Expr-1 hidden
returns-clause-right_side c = breach_is _ _ _ _ refl

pub returns-clause-left : goal.returns-clause-left
unfolding standard hidden-the_row-Expr-0 hidden-the_row-Expr-1 hidden
returns-clause-left c = breach_is _ _ _ _ refl

pub returns-clause-right : goal.returns-clause-right
unfolding standard hidden-the_row-Expr-0 hidden-the_row-Expr-1 hidden
returns-clause-right c = breach_is _ _ _ _ refl

pub returns-clause-sign : goal.returns-clause-sign
unfolding standard hidden-the_row-Expr-0 hidden-the_row-Expr-1 hidden
returns-clause-sign c = breach_is _ _ _ _ refl

pub returns-clause-operands_first : goal.returns-clause-operands_first
unfolding standard hidden-the_row-Expr-0 hidden-the_row-Expr-1 hidden
returns-clause-operands_first c = breach_is _ _ _ _ refl
