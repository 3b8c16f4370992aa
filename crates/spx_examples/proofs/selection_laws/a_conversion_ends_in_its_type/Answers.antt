use Rattle.std.proofs.Common.{pos, [], ◌∷◌}
use Rattle.std.specs.Prelude.{codes}
use denote.Hole.Carrier.{hidden}
use Rattle.spx_num.specs.Widths.{fits}
use Rattle.spx_tree.specs.declared.expression.Expr.TheBlock.{hidden-the_row-Expr-0, hidden-the_row-Expr-1}
use Rattle.spx_core.specs.declared.expression.CoreExpr.TheBlock.{hidden-the_row-CoreExpr-0}
use Rattle.spx_core.specs.Regions.{standard}
use Rattle.spx_examples.specs.Declarations.{color_written, constant_in, last_of, named_number_in, number_in, red, t_written, u_written}
use Rattle.spx_examples.specs.Increment.{x_written}
use Rattle.spx_examples.specs.Selections.{conversion_in}
use Rattle.spx_examples.proofs.Declarations.{breach_is}
use Rattle.spx_examples.proofs.selection_laws.a_conversion_ends_in_its_type.Goals as goal

pub returns-clause-last : goal.returns-clause-last
unfolding standard fits hidden-the_row-Expr-0 hidden-the_row-Expr-1 hidden-the_row-CoreExpr-0 hidden
returns-clause-last c =
    breach_is (t_written ∷ named_number_in 5 (codes "N") (conversion_in (codes "T") (number_in (pos 10))) ∷ []) (x_written 9 4) (number_in (pos 1) 9 9)

pub returns-clause-past_last : goal.returns-clause-past_last
unfolding standard fits hidden-the_row-Expr-0 hidden-the_row-Expr-1 hidden-the_row-CoreExpr-0 hidden
returns-clause-past_last c =
    breach_is (t_written ∷ named_number_in 5 (codes "N") (conversion_in (codes "T") (number_in (pos 11))) ∷ []) (x_written 9 4) (number_in (pos 1) 9 9)

pub returns-clause-another_type : goal.returns-clause-another_type
unfolding standard fits hidden-the_row-Expr-0 hidden-the_row-Expr-1 hidden-the_row-CoreExpr-0 hidden
returns-clause-another_type c =
    breach_is (t_written ∷ u_written ∷ constant_in 6 (codes "C") (codes "T") (conversion_in (codes "T") (last_of (codes "U"))) ∷ []) (x_written 9 4) (number_in (pos 1) 9 9)

pub returns-clause-literal : goal.returns-clause-literal
unfolding standard fits hidden-the_row-Expr-0 hidden-the_row-Expr-1 hidden-the_row-CoreExpr-0 hidden
returns-clause-literal c =
    breach_is (color_written ∷ constant_in 5 (codes "C") (codes "Integer") (conversion_in (codes "Integer") red) ∷ []) (x_written 9 4) (number_in (pos 1) 9 9)
