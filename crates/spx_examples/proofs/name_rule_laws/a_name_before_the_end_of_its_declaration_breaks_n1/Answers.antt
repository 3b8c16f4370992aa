use Rattle.std.proofs.Common.{refl}
use denote.Hole.Carrier.{hidden}
use Rattle.spx_tree.specs.declared.expression.Expr.TheBlock.{hidden-the_row-Expr-0, hidden-the_row-Expr-1}
use Rattle.spx_core.specs.Regions.{standard}
use Rattle.spx_examples.proofs.NameBreaches.{breach_is}
use Rattle.spx_examples.proofs.name_rule_laws.a_name_before_the_end_of_its_declaration_breaks_n1.Goals as goal

pub returns-clause-annotation : goal.returns-clause-annotation
unfolding standard hidden-the_row-Expr-0 hidden-the_row-Expr-1 hidden
returns-clause-annotation c = breach_is _ _ _ _ refl
