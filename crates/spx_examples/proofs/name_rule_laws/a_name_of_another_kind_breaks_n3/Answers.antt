use Rattle.std.proofs.Common.{refl}
use denote.Hole.Carrier.{hidden}
use Rattle.spx_tree.specs.declared.expression.Expr.TheBlock.{hidden-the_row-Expr-0, hidden-the_row-Expr-1}
use Rattle.spx_core.specs.Regions.{standard}
use Rattle.spx_examples.proofs.NameBreaches.{breach_is}
use Rattle.spx_examples.proofs.name_rule_laws.a_name_of_another_kind_breaks_n3.Goals as goal

pub returns-clause-procedure : goal.returns-clause-procedure
unfolding standard hidden-the_row-Expr-0 hidden-the_row-Expr-1 hidden
returns-clause-procedure c = breach_is _ _ _ _ refl

pub returns-clause-predefined : goal.returns-clause-predefined
unfolding standard hidden-the_row-Expr-0 hidden-the_row-Expr-1 hidden
returns-clause-predefined c = breach_is _ _ _ _ refl

pub returns-clause-target : goal.returns-clause-target
unfolding standard hidden-the_row-Expr-0 hidden-the_row-Expr-1 hidden
returns-clause-target c = breach_is _ _ _ _ refl

pub returns-clause-prefix : goal.returns-clause-prefix
unfolding standard hidden-the_row-Expr-0 hidden-the_row-Expr-1 hidden
returns-clause-prefix c = breach_is _ _ _ _ refl
