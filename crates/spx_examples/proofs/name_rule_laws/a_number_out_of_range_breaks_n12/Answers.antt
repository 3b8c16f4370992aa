use Rattle.std.proofs.Common.{refl}
use denote.Hole.Carrier.{hidden}
use Rattle.spx_tree.specs.declared.expression.Expr.TheBlock.{hidden-the_row-Expr-0, hidden-the_row-Expr-1}
use Rattle.spx_core.specs.Regions.{standard}
use Rattle.spx_num.specs.Widths.{fits}
use Rattle.spx_examples.proofs.NameBreaches.{breach_is}
use Rattle.spx_examples.proofs.name_rule_laws.a_number_out_of_range_breaks_n12.Goals as goal

pub returns-clause-last : goal.returns-clause-last
unfolding standard hidden-the_row-Expr-0 hidden-the_row-Expr-1 hidden fits
returns-clause-last c = breach_is _ _ _ _ refl

pub returns-clause-after_last : goal.returns-clause-after_last
unfolding standard hidden-the_row-Expr-0 hidden-the_row-Expr-1 hidden fits
returns-clause-after_last c = breach_is _ _ _ _ refl

pub returns-clause-first : goal.returns-clause-first
unfolding standard hidden-the_row-Expr-0 hidden-the_row-Expr-1 hidden fits
returns-clause-first c = breach_is _ _ _ _ refl

pub returns-clause-before_first : goal.returns-clause-before_first
unfolding standard hidden-the_row-Expr-0 hidden-the_row-Expr-1 hidden fits
returns-clause-before_first c = breach_is _ _ _ _ refl

pub returns-clause-left : goal.returns-clause-left
unfolding standard hidden-the_row-Expr-0 hidden-the_row-Expr-1 hidden fits
returns-clause-left c = breach_is _ _ _ _ refl

pub returns-clause-right : goal.returns-clause-right
unfolding standard hidden-the_row-Expr-0 hidden-the_row-Expr-1 hidden fits
returns-clause-right c = breach_is _ _ _ _ refl
