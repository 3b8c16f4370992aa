use Rattle.std.proofs.Common.{pos, [], ◌∷◌}
use Rattle.std.specs.Prelude.{codes}
use denote.Hole.Carrier.{hidden}
use Rattle.spx_num.specs.Widths.{fits}
use Rattle.spx_tree.specs.declared.expression.Expr.TheBlock.{hidden-the_row-Expr-0, hidden-the_row-Expr-1}
use Rattle.spx_core.specs.declared.expression.CoreExpr.TheBlock.{hidden-the_row-CoreExpr-0}
use Rattle.spx_core.specs.Regions.{standard}
use Rattle.spx_examples.specs.Declarations.{color_written, constant_in, green, number_in, red}
use Rattle.spx_examples.specs.Selections.{function_in}
use Rattle.spx_examples.proofs.Declarations.{denotes_as}
use Rattle.spx_examples.proofs.selection_laws.functions_of_literals_have_values.Goals as goal

pub returns-clause-position : goal.returns-clause-position
unfolding standard fits hidden-the_row-Expr-0 hidden-the_row-Expr-1 hidden-the_row-CoreExpr-0 hidden
returns-clause-position c =
    denotes_as (color_written ∷ constant_in 5 (codes "C") (codes "Integer") (function_in (codes "Color") (codes "Pos") green) ∷ []) (codes "C")

pub returns-clause-value : goal.returns-clause-value
unfolding standard fits hidden-the_row-Expr-0 hidden-the_row-Expr-1 hidden-the_row-CoreExpr-0 hidden
returns-clause-value c =
    denotes_as (color_written ∷ constant_in 5 (codes "C") (codes "Color") (function_in (codes "Color") (codes "Val") (number_in (pos 2))) ∷ []) (codes "C")

pub returns-clause-next : goal.returns-clause-next
unfolding standard fits hidden-the_row-Expr-0 hidden-the_row-Expr-1 hidden-the_row-CoreExpr-0 hidden
returns-clause-next c =
    denotes_as (color_written ∷ constant_in 5 (codes "C") (codes "Color") (function_in (codes "Color") (codes "Succ") red) ∷ []) (codes "C")

pub returns-clause-previous : goal.returns-clause-previous
unfolding standard fits hidden-the_row-Expr-0 hidden-the_row-Expr-1 hidden-the_row-CoreExpr-0 hidden
returns-clause-previous c =
    denotes_as (color_written ∷ constant_in 5 (codes "C") (codes "Color") (function_in (codes "Color") (codes "Pred") green) ∷ []) (codes "C")
