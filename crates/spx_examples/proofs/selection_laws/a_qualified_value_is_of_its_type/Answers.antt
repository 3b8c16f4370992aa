use Rattle.std.proofs.Common.{pos, [], ◌∷◌}
use Rattle.std.specs.Prelude.{codes}
use denote.Hole.Carrier.{hidden}
use Rattle.spx_num.specs.Widths.{fits}
use Rattle.spx_tree.specs.declared.expression.Expr.TheBlock.{hidden-the_row-Expr-0, hidden-the_row-Expr-1}
use Rattle.spx_core.specs.declared.expression.CoreExpr.TheBlock.{hidden-the_row-CoreExpr-0}
use Rattle.spx_core.specs.Regions.{standard}
use Rattle.spx_examples.specs.Declarations.{color_written, constant_in, green, last_of, name_in, named_number_in, number_in, t_written, u_written}
use Rattle.spx_examples.specs.Increment.{x_written}
use Rattle.spx_examples.specs.Selections.{qualified_in, warm_written}
use Rattle.spx_examples.proofs.Declarations.{breach_is}
use Rattle.spx_examples.proofs.selection_laws.a_qualified_value_is_of_its_type.Goals as goal

pub returns-clause-last : goal.returns-clause-last
unfolding standard fits hidden-the_row-Expr-0 hidden-the_row-Expr-1 hidden-the_row-CoreExpr-0 hidden
returns-clause-last c =
    breach_is (t_written ∷ named_number_in 5 (codes "N") (qualified_in (codes "T") (number_in (pos 10))) ∷ []) (x_written 9 4) (number_in (pos 1) 9 9)

pub returns-clause-past_last : goal.returns-clause-past_last
unfolding standard fits hidden-the_row-Expr-0 hidden-the_row-Expr-1 hidden-the_row-CoreExpr-0 hidden
returns-clause-past_last c =
    breach_is (t_written ∷ named_number_in 5 (codes "N") (qualified_in (codes "T") (number_in (pos 11))) ∷ []) (x_written 9 4) (number_in (pos 1) 9 9)

pub returns-clause-another_type : goal.returns-clause-another_type
unfolding standard fits hidden-the_row-Expr-0 hidden-the_row-Expr-1 hidden-the_row-CoreExpr-0 hidden
returns-clause-another_type c =
    breach_is (t_written ∷ u_written ∷ named_number_in 6 (codes "N") (qualified_in (codes "T") (last_of (codes "U"))) ∷ []) (x_written 9 4) (number_in (pos 1) 9 9)

pub returns-clause-literal : goal.returns-clause-literal
unfolding standard fits hidden-the_row-Expr-0 hidden-the_row-Expr-1 hidden-the_row-CoreExpr-0 hidden
returns-clause-literal c =
    breach_is (color_written ∷ warm_written ∷ constant_in 6 (codes "C") (codes "Color") (qualified_in (codes "Warm") green) ∷ []) (x_written 9 4) (number_in (pos 1) 9 9)

pub returns-clause-past_subtype : goal.returns-clause-past_subtype
unfolding standard fits hidden-the_row-Expr-0 hidden-the_row-Expr-1 hidden-the_row-CoreExpr-0 hidden
returns-clause-past_subtype c =
    breach_is (color_written ∷ warm_written ∷ constant_in 6 (codes "C") (codes "Color") (qualified_in (codes "Warm") (name_in (codes "Blue"))) ∷ []) (x_written 9 4) (number_in (pos 1) 9 9)
