-- A membership test in a type, when it is resolved.
use Rattle.std.proofs.Common.{◌≡◌, List, map, sym, ap, ap₂, ◌∙◌}
use Rattle.spx_text.specs.declared.place.Place.{Place}
use Rattle.spx_tree.specs.declared.expression.Expr.{Expr, Expr-F, out-Expr, map-Expr, fold_out-Expr}
use Rattle.spx_tree.specs.declared.expression.Expr.TheVariants.{InType, outs-InType}
use Rattle.spx_tree.specs.declared.expression.MemberOp.{MemberOp}
use Rattle.spx_tree.specs.declared.expression.Path.{Path}
use Rattle.spx_core.specs.declared.expression.CoreExpr.{CoreExpr}
use Rattle.spx_core.specs.declared.expression.CoreExpr.TheVariants as expr
use Rattle.spx_core.specs.Regions.{Regions}
use Rattle.spx_core.specs.ResolvedExpressions.{Scene, expr_step, resolved_in, resolved_name}
use Rattle.spx_core.proofs.Callers.WrittenParts.{parts_written}

module _ (scene : Scene) (regions : Regions) where
  -- with these expressions in the name of the type, as they are written
  abbrev pub in_type : MemberOp → Place → CoreExpr → Path → List Expr → CoreExpr
  in_type op place tested path parts = expr.InType op place tested (record { root = resolved_name regions path.root; steps = path.steps; parts = parts })

  at_form : (e : Expr) (layer : Expr-F Expr) → out-Expr e ≡ layer → resolved_in scene regions e ≡ expr_step scene regions (map-Expr Expr CoreExpr (resolved_in scene regions) layer)
  at_form e layer is = fold_out-Expr CoreExpr (expr_step scene regions) e ∙ ap (λ x. expr_step scene regions (map-Expr Expr CoreExpr (resolved_in scene regions) x)) is

  pub tested_in : (e : Expr) (op : MemberOp) (place : Place) (a : Expr) (path : Path) (parts given : List Expr) (tested : CoreExpr)
      → e ≡ InType op place a path parts → tested ≡ resolved_in scene regions a → given ≡ parts → in_type op place tested path given ≡ resolved_in scene regions e
  tested_in e op place a path parts given tested is is_tested are =
      ap₂ (λ x ps. in_type op place x path ps) is_tested (are ∙ sym (parts_written scene regions parts))
      ∙ sym (at_form e (Expr-F.InType op place a path parts) (ap out-Expr is ∙ outs-InType op place a path parts))
