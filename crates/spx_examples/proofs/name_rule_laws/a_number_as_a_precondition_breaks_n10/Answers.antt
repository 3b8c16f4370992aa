use Rattle.std.proofs.Common.{refl}
use denote.Hole.Carrier.{hidden}
use Rattle.spx_tree.specs.declared.expression.Expr.TheBlock.{hidden-the_row-Expr-0, hidden-the_row-Expr-1}
use Rattle.spx_core.specs.Regions.{standard}
use Rattle.spx_examples.proofs.NameBreaches.{breach_is}
use Rattle.spx_examples.proofs.name_rule_laws.a_number_as_a_precondition_breaks_n10.Goals as goal

pub returns-clause-number : goal.returns-clause-number
unfolding standard hidden-the_row-Expr-0 hidden-the_row-Expr-1 hidden
returns-clause-number c = breach_is _ _ _ _ refl

pub returns-clause-comparison : goal.returns-clause-comparison
unfolding standard hidden-the_row-Expr-0 hidden-the_row-Expr-1 hidden
returns-clause-comparison c = breach_is _ _ _ _ refl
