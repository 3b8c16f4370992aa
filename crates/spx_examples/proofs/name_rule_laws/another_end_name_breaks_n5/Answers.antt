use Rattle.std.proofs.Common.{refl}
use denote.Hole.Carrier.{hidden}
use Rattle.spx_tree.specs.declared.expression.Expr.TheBlock.{hidden-the_row-Expr-0, hidden-the_row-Expr-1}
use Rattle.spx_core.specs.Regions.{standard}
use Rattle.spx_examples.proofs.NameBreaches.{breach_is}
use Rattle.spx_examples.proofs.name_rule_laws.another_end_name_breaks_n5.Goals as goal

pub returns-clause-other : goal.returns-clause-other
unfolding standard hidden-the_row-Expr-0 hidden-the_row-Expr-1 hidden
returns-clause-other c = breach_is _ _ _ _ refl

pub returns-clause-same : goal.returns-clause-same
unfolding standard hidden-the_row-Expr-0 hidden-the_row-Expr-1 hidden
returns-clause-same c = breach_is _ _ _ _ refl

pub returns-clause-none : goal.returns-clause-none
unfolding standard hidden-the_row-Expr-0 hidden-the_row-Expr-1 hidden
returns-clause-none c = breach_is _ _ _ _ refl
