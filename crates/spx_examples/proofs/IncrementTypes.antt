-- What the expressions of the procedure `Inc` are judged to be, and which of them are static.
use Rattle.std.proofs.Common.{◌≡◌, Some, None, Ok, ap, ap₂, ◌∙◌}
use Rattle.std.specs.Prelude.{codes}
use Rattle.spx_tree.specs.declared.expression.InfixOp.TheVariants as op
use Rattle.spx_core.specs.declared.entity.TheConstants.{BOOLEAN, INTEGER, INTEGER_LAST}
use Rattle.spx_core.specs.declared.expression.CoreExpr.TheVariants as expr
use Rattle.spx_core.specs.declared.rule.ExprType.TheVariants.{Of}
use Rattle.spx_core.specs.Judged.{expr_step, judged, typing}
use Rattle.spx_core.proofs.Callers.Expressions.{fold-Attribute, fold-Infix}
use Rattle.spx_term.specs.declared.value.Value.TheVariants as value
use Rattle.spx_meaning.specs.Literals.{literal, literal_in}
use Rattle.spx_examples.specs.Increment.{place, word, x_at, integer_at, integer_last, below_last}
use Rattle.spx_examples.proofs.Statements.{operating}
use Rattle.spx_examples.proofs.Successor.{judged_x}

judged_last : judged integer_last ≡ Ok (typing (Of INTEGER.base) (Some INTEGER_LAST) (place 3 13))
judged_last = fold-Attribute expr_step (integer_at 3 13) (word (codes "Last") 3 21)

pub judged_below : judged below_last ≡ Ok (typing (Of BOOLEAN.base) None (place 3 11))
judged_below = fold-Infix expr_step op.Less (place 3 11) (expr.Name (x_at 3 9)) integer_last ∙ ap₂ (operating op.Less (place 3 11)) (judged_x 3 9) judged_last

-- ---- static values

pub last_is_static : literal integer_last ≡ Some (value.Number INTEGER_LAST)
last_is_static = ap literal_in judged_last

pub below_is_not : literal below_last ≡ None
below_is_not = ap literal_in judged_below
