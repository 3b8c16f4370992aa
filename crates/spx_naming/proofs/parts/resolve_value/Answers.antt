use Rattle.std.proofs.Common.{◌≡◌, IfOk, ◌∷◌, subst, ap, ◌∙◌}
use Rattle.spx_core.specs.Regions.{Regions, hidden}
use Rattle.spx_core.specs.ResolvedExpressions.{resolved_expr}
use Rattle.spx_naming.proofs.parts.resolve_value.Goals as goal

pub returns : goal.returns
returns c =
    let around = c.hiding.ensures ∙ ap (λ (rest : Regions). hidden c.args.names.now ∷ rest) c.inside-scope.ensures in
    subst (λ regions. IfOk c.resolve_expr.result (λ r. r ≡ resolved_expr c.args.scene.now c.args.of regions c.args.value.now)) around c.resolve_expr.ensures
