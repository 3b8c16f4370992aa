use Rattle.std.proofs.Common.{pos, [], ◌∷◌}
use Rattle.std.specs.Prelude.{codes}
use denote.Hole.Carrier.{hidden}
use Rattle.spx_num.specs.Widths.{fits}
use Rattle.spx_tree.specs.declared.expression.Expr.TheBlock.{hidden-the_row-Expr-0, hidden-the_row-Expr-1}
use Rattle.spx_core.specs.declared.expression.CoreExpr.TheBlock.{hidden-the_row-CoreExpr-0}
use Rattle.spx_core.specs.Regions.{standard}
use Rattle.spx_examples.specs.Declarations.{color_written, constant_in, green, name_in, number_in, red, t_written}
use Rattle.spx_examples.specs.Increment.{x_written}
use Rattle.spx_examples.specs.Selections.{function_in}
use Rattle.spx_examples.proofs.Declarations.{breach_is}
use Rattle.spx_examples.proofs.selection_laws.a_function_of_a_type_needs_an_operand.Goals as goal

pub returns-clause-operand : goal.returns-clause-operand
unfolding standard fits hidden-the_row-Expr-0 hidden-the_row-Expr-1 hidden-the_row-CoreExpr-0 hidden
returns-clause-operand c =
    breach_is (color_written ∷ constant_in 5 (codes "C") (codes "Integer") (function_in (codes "Color") (codes "Pos") green) ∷ []) (x_written 9 4) (number_in (pos 1) 9 9)

pub returns-clause-first : goal.returns-clause-first
unfolding standard fits hidden-the_row-Expr-0 hidden-the_row-Expr-1 hidden-the_row-CoreExpr-0 hidden
returns-clause-first c =
    breach_is (color_written ∷ constant_in 5 (codes "C") (codes "Color") (function_in (codes "Color") (codes "First") red) ∷ []) (x_written 9 4) (number_in (pos 1) 9 9)

pub returns-clause-of_integer : goal.returns-clause-of_integer
unfolding standard fits hidden-the_row-Expr-0 hidden-the_row-Expr-1 hidden-the_row-CoreExpr-0 hidden
returns-clause-of_integer c =
    breach_is (t_written ∷ constant_in 5 (codes "C") (codes "Integer") (function_in (codes "T") (codes "Pos") (number_in (pos 1))) ∷ []) (x_written 9 4) (number_in (pos 1) 9 9)

pub returns-clause-past_last : goal.returns-clause-past_last
unfolding standard fits hidden-the_row-Expr-0 hidden-the_row-Expr-1 hidden-the_row-CoreExpr-0 hidden
returns-clause-past_last c =
    breach_is (color_written ∷ constant_in 5 (codes "C") (codes "Color") (function_in (codes "Color") (codes "Succ") (name_in (codes "Blue"))) ∷ []) (x_written 9 4) (number_in (pos 1) 9 9)
