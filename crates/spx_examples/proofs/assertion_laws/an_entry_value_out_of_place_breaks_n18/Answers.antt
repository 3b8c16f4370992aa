use Rattle.std.proofs.Common.{refl}
use denote.Hole.Carrier.{hidden}
use Rattle.spx_tree.specs.declared.expression.Expr.TheBlock.{hidden-the_row-Expr-0, hidden-the_row-Expr-1}
use Rattle.spx_core.specs.Regions.{standard}
use Rattle.spx_examples.proofs.NameBreaches.{breach_is, breach_of_assertion}
use Rattle.spx_examples.proofs.assertion_laws.an_entry_value_out_of_place_breaks_n18.Goals as goal

pub returns-clause-post : goal.returns-clause-post
unfolding standard hidden-the_row-Expr-0 hidden-the_row-Expr-1 hidden
returns-clause-post c = breach_is _ _ _ _ refl

pub returns-clause-check : goal.returns-clause-check
unfolding standard hidden-the_row-Expr-0 hidden-the_row-Expr-1 hidden
returns-clause-check c = breach_of_assertion _ _ _ _ _ refl

pub returns-clause-pre : goal.returns-clause-pre
unfolding standard hidden-the_row-Expr-0 hidden-the_row-Expr-1 hidden
returns-clause-pre c = breach_is _ _ _ _ refl

pub returns-clause-code : goal.returns-clause-code
unfolding standard hidden-the_row-Expr-0 hidden-the_row-Expr-1 hidden
returns-clause-code c = breach_is _ _ _ _ refl

pub returns-clause-import : goal.returns-clause-import
unfolding standard hidden-the_row-Expr-0 hidden-the_row-Expr-1 hidden
returns-clause-import c = breach_is _ _ _ _ refl

pub returns-clause-export : goal.returns-clause-export
unfolding standard hidden-the_row-Expr-0 hidden-the_row-Expr-1 hidden
returns-clause-export c = breach_is _ _ _ _ refl

pub returns-clause-import_in_check : goal.returns-clause-import_in_check
unfolding standard hidden-the_row-Expr-0 hidden-the_row-Expr-1 hidden
returns-clause-import_in_check c = breach_of_assertion _ _ _ _ _ refl

pub returns-clause-local : goal.returns-clause-local
unfolding standard hidden-the_row-Expr-0 hidden-the_row-Expr-1 hidden
returns-clause-local c = breach_of_assertion _ _ _ _ _ refl
