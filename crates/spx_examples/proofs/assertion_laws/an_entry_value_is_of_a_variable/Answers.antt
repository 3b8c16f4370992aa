use Rattle.std.proofs.Common.{refl}
use denote.Hole.Carrier.{hidden}
use Rattle.spx_tree.specs.declared.expression.Expr.TheBlock.{hidden-the_row-Expr-0, hidden-the_row-Expr-1}
use Rattle.spx_core.specs.Regions.{standard}
use Rattle.spx_examples.proofs.NameBreaches.{breach_is}
use Rattle.spx_examples.proofs.assertion_laws.an_entry_value_is_of_a_variable.Goals as goal

pub returns-clause-literal : goal.returns-clause-literal
unfolding standard hidden-the_row-Expr-0 hidden-the_row-Expr-1 hidden
returns-clause-literal c = breach_is _ _ _ _ refl

pub returns-clause-type_name : goal.returns-clause-type_name
unfolding standard hidden-the_row-Expr-0 hidden-the_row-Expr-1 hidden
returns-clause-type_name c = breach_is _ _ _ _ refl

pub returns-clause-procedure : goal.returns-clause-procedure
unfolding standard hidden-the_row-Expr-0 hidden-the_row-Expr-1 hidden
returns-clause-procedure c = breach_is _ _ _ _ refl

pub returns-clause-undeclared : goal.returns-clause-undeclared
unfolding standard hidden-the_row-Expr-0 hidden-the_row-Expr-1 hidden
returns-clause-undeclared c = breach_is _ _ _ _ refl

pub returns-clause-local : goal.returns-clause-local
unfolding standard hidden-the_row-Expr-0 hidden-the_row-Expr-1 hidden
returns-clause-local c = breach_is _ _ _ _ refl
