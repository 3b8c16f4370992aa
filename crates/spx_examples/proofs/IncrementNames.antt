-- The program of the procedure `Inc` is what its units are resolved to, with its precondition and without.
use Rattle.std.proofs.Common.{◌≡◌, [], ◌∷◌, Some, None, refl, ap, ap₂, ◌∙◌}
use Rattle.std.specs.Prelude.{codes}
use denote.Hole.Carrier.{roll, hidden}
use Rattle.spx_tree.specs.declared.expression.InfixOp.TheVariants as op
use Rattle.spx_tree.specs.declared.expression.Expr.{Expr-F, roll-Expr, fold-roll-Expr}
use Rattle.spx_core.specs.declared.entity.Entity.TheVariants as entity
use Rattle.spx_core.specs.declared.entity.TheConstants.{INTEGER}
use Rattle.spx_core.specs.declared.expression.CoreExpr.{CoreExpr}
use Rattle.spx_core.specs.declared.expression.CoreExpr.TheBlock.{hidden-the_row-CoreExpr-0}
use Rattle.spx_core.specs.declared.expression.CoreExpr.TheVariants as expr
use Rattle.spx_core.specs.declared.subprogram.Sub.{Sub}
use Rattle.spx_core.specs.declared.program.Program.{Program}
use Rattle.spx_core.specs.declared.rule.ExprType.TheVariants.{Of}
use Rattle.spx_core.specs.Contexts.{in_context}
use Rattle.spx_core.specs.Regions.{Region, Regions, denoted, standard}
use Rattle.spx_core.specs.ResolvedExpressions.{Scene, expr_step, in_code, resolved_condition}
use Rattle.spx_core.specs.DeclaredNames.{declaring}
use Rattle.spx_core.specs.ResolvedStatements.{parameters_by_stmts}
use Rattle.spx_core.specs.Resolved.{around_body, resolved, standard_types}
use Rattle.spx_core.proofs.Callers.LoopParameters.{parameters-Assignment}
use Rattle.spx_examples.specs.Increment.{place, word, x_written, last_written, below_written, inc_written, inc_units, x, object, x_declared, inc_declared, below_last, successor, step, relation, inc, increment, x_at}
use Rattle.spx_examples.specs.Names.{attribute, target_to, value_named}
use Rattle.spx_examples.specs.Refused.{units_without_pre, increment_without_pre}
use Rattle.spx_examples.proofs.Contexts.{becomes}
use Rattle.spx_examples.proofs.Names.{named_is}
use Rattle.spx_examples.proofs.Resolving.{as_body, in_one, resolved_as, resolved_step, resolved_x}

-- around the annotations and the body
abbrev pub outer : Regions
outer = around_body inc_declared

abbrev pub region : Region
region = declaring [] x_declared

abbrev pub regions : Regions
regions = region ∷ outer

pub x_denotes : denoted regions (codes "X") ≡ Some (entity.Variable x object)
x_denotes = refl

-- what its precondition stands in
abbrev pub scene : Scene
scene = in_code standard_types

resolved_below : resolved_condition scene regions below_written ≡ below_last
unfolding roll-Expr roll hidden-the_row-CoreExpr-0 hidden standard
resolved_below =
    ap (in_context (Of INTEGER.base))
    (fold-roll-Expr CoreExpr (expr_step scene regions) (Expr-F.Infix op.Less (place 3 11) (value_named (x_written 3 9)) last_written)
    ∙ ap₂ (expr.Infix op.Less (place 3 11)) (resolved_x scene regions x_denotes 3 9) (named_is scene regions (attribute (word (codes "Integer") 3 13) (word (codes "Last") 3 21))))
    ∙ becomes below_last refl (Of INTEGER.base)

-- the program of one procedure
abbrev of_sub : Sub → Program
of_sub sub = record increment { subs = sub ∷ [] }

-- the program with this condition
abbrev with_pre : CoreExpr → Program
with_pre condition = of_sub (record inc { pre = Some (record { place = place 3 5; condition = condition }) })

no_parameters : parameters_by_stmts (step ∷ []) ≡ []
no_parameters = in_one step (parameters-Assignment (target_to (x_at 6 4)) (successor 6 9))

pub increment_is_resolved : resolved inc_units ≡ increment
unfolding standard
increment_is_resolved =
    resolved_as inc_written (step ∷ []) [] (ap as_body (resolved_step standard_types (relation ∷ []) outer region 1 x_denotes 6 4 9)) no_parameters
    ∙ ap with_pre resolved_below

pub without_pre_is_resolved : resolved units_without_pre ≡ increment_without_pre
unfolding standard
without_pre_is_resolved =
    resolved_as (record inc_written { pre = None }) (step ∷ []) [] (ap as_body (resolved_step standard_types (relation ∷ []) outer region 1 x_denotes 6 4 9)) no_parameters
