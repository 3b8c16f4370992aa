use Rattle.std.proofs.Common.{refl}
use denote.Hole.Carrier.{hidden}
use Rattle.spx_tree.specs.declared.expression.Expr.TheBlock.{hidden-the_row-Expr-0, hidden-the_row-Expr-1}
use Rattle.spx_core.specs.Regions.{standard}
use Rattle.spx_examples.proofs.NameBreaches.{breach_is}
use Rattle.spx_examples.proofs.name_rule_laws.an_attribute_out_of_place_breaks_n3.Goals as goal

pub returns-clause-other : goal.returns-clause-other
unfolding standard hidden-the_row-Expr-0 hidden-the_row-Expr-1 hidden
returns-clause-other c = breach_is _ _ _ _ refl

pub returns-clause-target : goal.returns-clause-target
unfolding standard hidden-the_row-Expr-0 hidden-the_row-Expr-1 hidden
returns-clause-target c = breach_is _ _ _ _ refl

pub returns-clause-value : goal.returns-clause-value
unfolding standard hidden-the_row-Expr-0 hidden-the_row-Expr-1 hidden
returns-clause-value c = breach_is _ _ _ _ refl
