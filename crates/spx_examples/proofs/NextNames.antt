-- The program of the procedure `Next` is what its units are resolved to.
use Rattle.std.proofs.Common.{◌≡◌, ℕ, List, [], ◌∷◌, ◌++◌, Some, None, refl, ap, ap₂, ◌∙◌}
use Rattle.std.specs.Prelude.{codes}
use Rattle.spx_tree.specs.declared.statement.Stmt.TheVariants as written_stmt
use Rattle.spx_core.specs.declared.entity.Entity.TheVariants as entity
use Rattle.spx_core.specs.declared.expression.CoreExpr.{CoreExpr}
use Rattle.spx_core.specs.declared.name.Defining.{Defining}
use Rattle.spx_core.specs.declared.statement.CoreArm.{fold-roll-CoreArm}
use Rattle.spx_core.specs.declared.statement.CoreStmt.{CoreStmt}
use Rattle.spx_core.specs.declared.statement.CoreStmt.TheVariants as stmt
use Rattle.spx_core.specs.Regions.{Region, Regions, denoted, standard}
use Rattle.spx_core.specs.DeclaredNames.{declaring}
use Rattle.spx_core.specs.ResolvedStatements.{parameters_by_stmts, parameters_in_alternative, parameters_in_arm, parameters_step, resolved_stmt}
use Rattle.spx_core.specs.Resolved.{around_body, resolved, standard_types}
use Rattle.spx_core.proofs.Callers.LoopParameters.{parameters-Assignment, parameters-If}
use Rattle.spx_examples.specs.Branches.{arm}
use Rattle.spx_examples.specs.Increment.{place, x, object, successor, x_at}
use Rattle.spx_examples.specs.Names.{target_to}
use Rattle.spx_examples.specs.Next.{below_hundred_at, below_written, step, step_written, arm_written, closing, next_written, next_units, x_declared, next_declared, relation, branch, next_program}
use Rattle.spx_examples.proofs.Resolving.{as_body, in_one, resolved_as, resolved_below, resolved_if, resolved_step}

-- around the annotations and the body
abbrev outer : Regions
outer = around_body next_declared

abbrev region : Region
region = declaring [] x_declared

abbrev regions : Regions
regions = region ∷ outer

x_denotes : denoted regions (codes "X") ≡ Some (entity.Variable x object)
x_denotes = refl

resolved_branch : resolved_stmt standard_types (relation ∷ []) outer (written_stmt.If (arm_written ∷ []) None closing) region 1 ≡ (branch, 1)
resolved_branch =
    resolved_if standard_types (relation ∷ []) outer region 1 (place 5 4) (below_written 5 7) (step_written ∷ []) closing
    ∙ ap₂ (λ (condition : CoreExpr) (made : CoreStmt × ℕ). (stmt.If (arm (place 5 4) condition (as_body made) ∷ []) None closing, made.1))
    (resolved_below standard_types regions x_denotes 5 7)
    (resolved_step standard_types (relation ∷ []) outer region 1 x_denotes 6 7 12)

no_parameters : parameters_by_stmts (branch ∷ []) ≡ []
no_parameters =
    in_one branch
    (parameters-If branch (arm (place 5 4) (below_hundred_at 5 7) (step ∷ []) ∷ []) None closing refl refl
    ∙ ap (λ ds. ds ++ [])
    (fold-roll-CoreArm (List Defining) (List Defining) (List Defining) parameters_step parameters_in_alternative parameters_in_arm (record { place = place 5 4; condition = below_hundred_at 5 7; body = step ∷ [] })
    ∙ in_one step (parameters-Assignment (target_to (x_at 6 7)) (successor 6 12))))

pub next_is_resolved : resolved next_units ≡ next_program
unfolding standard
next_is_resolved = resolved_as next_written (branch ∷ []) [] (ap as_body resolved_branch) no_parameters
