use Rattle.std.proofs.Common.{pos, [], ◌∷◌, None, Some, ap, ap₂, ◌∙◌}
use Rattle.std.specs.Prelude.{codes}
use denote.Hole.Carrier.{hidden}
use Rattle.spx_tree.specs.declared.expression.Expr.TheBlock.{hidden-the_row-Expr-0, hidden-the_row-Expr-1}
use Rattle.spx_tree.specs.declared.statement.AssertionKind.TheVariants.{Check}
use Rattle.spx_core.specs.declared.entity.TheConstants.{INTEGER}
use Rattle.spx_core.specs.declared.expression.CoreExpr.{CoreExpr}
use Rattle.spx_core.specs.declared.expression.CoreExpr.TheBlock.{hidden-the_row-CoreExpr-0}
use Rattle.spx_core.specs.declared.rule.ExprType.TheVariants.{Of, Universal}
use Rattle.spx_core.specs.declared.statement.CoreScheme.TheVariants as scheme
use Rattle.spx_core.specs.declared.statement.CoreStmt.TheVariants as stmt
use Rattle.spx_core.specs.DeclaredNames.{around_names}
use Rattle.spx_examples.specs.Branches.{arm}
use Rattle.spx_examples.specs.Declarations.{number_in}
use Rattle.spx_examples.specs.Increment.{place, word}
use Rattle.spx_examples.specs.Names.{target_to}
use Rattle.spx_examples.specs.Powers.{big, c_named, closing, n_named, name_written, power_written, scene, scope, unknown_named, v_named}
use Rattle.spx_examples.proofs.Contexts.{met_is}
use Rattle.spx_examples.proofs.Resolving.{resolved_assertion, resolved_assignment, resolved_exit, resolved_if, resolved_selector, resolved_while}
use Rattle.spx_examples.proofs.context_laws.each_place_gives_a_type.Goals as goal

pub returns-clause-target : goal.returns-clause-target
unfolding hidden-the_row-Expr-0 hidden-the_row-Expr-1 hidden-the_row-CoreExpr-0 hidden
returns-clause-target c =
    resolved_assignment scene.types [] scope [] 0 (name_written (codes "V") 1) (power_written (pos 2) 6)
    ∙ ap (λ (e : CoreExpr). (stmt.Assignment (target_to (v_named 1)) e, 0)) (met_is scene ([] ∷ scope) (Of big.base) (power_written (pos 2) 6))

pub returns-clause-integer_target : goal.returns-clause-integer_target
unfolding hidden-the_row-Expr-0 hidden-the_row-Expr-1 hidden-the_row-CoreExpr-0 hidden
returns-clause-integer_target c =
    resolved_assignment scene.types [] scope [] 0 (name_written (codes "N") 1) (power_written (pos 2) 6)
    ∙ ap (λ (e : CoreExpr). (stmt.Assignment (target_to (n_named 1)) e, 0)) (met_is scene ([] ∷ scope) (Of INTEGER.base) (power_written (pos 2) 6))

pub returns-clause-constant_target : goal.returns-clause-constant_target
unfolding hidden-the_row-Expr-0 hidden-the_row-Expr-1 hidden-the_row-CoreExpr-0 hidden
returns-clause-constant_target c =
    resolved_assignment scene.types [] scope [] 0 (name_written (codes "C") 1) (power_written (pos 2) 6)
    ∙ ap (λ (e : CoreExpr). (stmt.Assignment (target_to (c_named 1)) e, 0)) (met_is scene ([] ∷ scope) (Of big.base) (power_written (pos 2) 6))

pub returns-clause-unknown_target : goal.returns-clause-unknown_target
unfolding hidden-the_row-Expr-0 hidden-the_row-Expr-1 hidden-the_row-CoreExpr-0 hidden
returns-clause-unknown_target c =
    resolved_assignment scene.types [] scope [] 0 (name_written (codes "Y") 1) (power_written (pos 2) 6)
    ∙ ap (λ (e : CoreExpr). (stmt.Assignment (target_to (unknown_named 1)) e, 0)) (met_is scene ([] ∷ scope) Universal (power_written (pos 2) 6))

pub returns-clause-bounds : goal.returns-clause-bounds
unfolding hidden-the_row-Expr-0 hidden-the_row-Expr-1 hidden-the_row-CoreExpr-0 hidden
returns-clause-bounds c =
    ap₂ (λ (low high : CoreExpr). Some (record { low = low; high = high }))
    (met_is scene (around_names scope [] (word (codes "I") 1 5 ∷ [])) (Of big.base) (number_in (pos 1) 1 20))
    (met_is scene (around_names scope [] (word (codes "I") 1 5 ∷ [])) (Of big.base) (power_written (pos 2) 25))

pub returns-clause-arm : goal.returns-clause-arm
unfolding hidden-the_row-Expr-0 hidden-the_row-Expr-1 hidden-the_row-CoreExpr-0 hidden
returns-clause-arm c =
    resolved_if scene.types [] scope [] 0 (place 1 1) (power_written (pos 2) 4) [] closing
    ∙ ap (λ (e : CoreExpr). (stmt.If (arm (place 1 1) e [] ∷ []) None closing, 0)) (met_is scene ([] ∷ scope) (Of INTEGER.base) (power_written (pos 2) 4))

pub returns-clause-while_loop : goal.returns-clause-while_loop
unfolding hidden-the_row-Expr-0 hidden-the_row-Expr-1 hidden-the_row-CoreExpr-0 hidden
returns-clause-while_loop c =
    resolved_while scene.types [] scope [] 0 (place 1 1) (power_written (pos 2) 7) (place 1 14) [] closing
    ∙ ap (λ (e : CoreExpr). (stmt.Loop (scheme.While (place 1 1) e) (place 1 14) [] closing, 0)) (met_is scene ([] ∷ scope) (Of INTEGER.base) (power_written (pos 2) 7))

pub returns-clause-exit : goal.returns-clause-exit
unfolding hidden-the_row-Expr-0 hidden-the_row-Expr-1 hidden-the_row-CoreExpr-0 hidden
returns-clause-exit c =
    resolved_exit scene.types [] scope [] 0 (place 1 1) (power_written (pos 2) 11)
    ∙ ap (λ (e : CoreExpr). (stmt.Exit (place 1 1) (Some e), 0)) (met_is scene ([] ∷ scope) (Of INTEGER.base) (power_written (pos 2) 11))

pub returns-clause-selector : goal.returns-clause-selector
unfolding hidden-the_row-Expr-0 hidden-the_row-Expr-1 hidden-the_row-CoreExpr-0 hidden
returns-clause-selector c =
    resolved_selector scene.types [] scope [] 0 (place 1 1) (power_written (pos 2) 6) closing
    ∙ ap (λ (e : CoreExpr). (stmt.Case (place 1 1) e [] closing, 0)) (met_is scene ([] ∷ scope) (Of INTEGER.base) (power_written (pos 2) 6))

pub returns-clause-assertion : goal.returns-clause-assertion
unfolding hidden-the_row-Expr-0 hidden-the_row-Expr-1 hidden-the_row-CoreExpr-0 hidden
returns-clause-assertion c =
    resolved_assertion scene.types [] scope [] 0 Check (place 1 5) (power_written (pos 2) 11)
    ∙ ap (λ (e : CoreExpr). (stmt.Assertion Check (place 1 5) e, 0)) (met_is scene ([] ∷ scope) (Of INTEGER.base) (power_written (pos 2) 11))
