use Rattle.std.proofs.Common.{◌≡◌, IfOk, ◌∷◌, subst}
use Rattle.spx_core.specs.ResolvedExpressions.{resolved_condition}
use Rattle.spx_scope.specs.Seen.{seen}
use Rattle.spx_naming.proofs.expression.resolve_inside.Goals as goal

pub returns : goal.returns
returns c =
    subst (λ scene. IfOk c.resolve_condition.result (λ r. r ≡ resolved_condition scene (c.args.region.now ∷ seen c.args.outer.now) c.args.expr.now)) c.in_code.ensures
    (subst (λ regions. IfOk c.resolve_condition.result (λ r. r ≡ resolved_condition c.in_code.result regions c.args.expr.now)) c.inside-scope.ensures c.resolve_condition.ensures)
