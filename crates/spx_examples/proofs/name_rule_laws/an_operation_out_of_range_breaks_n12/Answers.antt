use Rattle.std.proofs.Common.{refl}
use denote.Hole.Carrier.{hidden}
use Rattle.spx_tree.specs.declared.expression.Expr.TheBlock.{hidden-the_row-Expr-0, hidden-the_row-Expr-1}
use Rattle.spx_core.specs.Regions.{standard}
use Rattle.spx_num.specs.Widths.{fits}
use Rattle.spx_examples.proofs.NameBreaches.{breach_is}
use Rattle.spx_examples.proofs.name_rule_laws.an_operation_out_of_range_breaks_n12.Goals as goal

pub returns-clause-sum : goal.returns-clause-sum
unfolding standard hidden-the_row-Expr-0 hidden-the_row-Expr-1 hidden fits
returns-clause-sum c = breach_is _ _ _ _ refl

pub returns-clause-sign : goal.returns-clause-sign
unfolding standard hidden-the_row-Expr-0 hidden-the_row-Expr-1 hidden fits
returns-clause-sign c = breach_is _ _ _ _ refl

pub returns-clause-universal : goal.returns-clause-universal
unfolding standard hidden-the_row-Expr-0 hidden-the_row-Expr-1 hidden fits
returns-clause-universal c = breach_is _ _ _ _ refl

pub returns-clause-past_128_bits : goal.returns-clause-past_128_bits
unfolding standard hidden-the_row-Expr-0 hidden-the_row-Expr-1 hidden fits
returns-clause-past_128_bits c = breach_is _ _ _ _ refl
