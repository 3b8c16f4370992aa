use Rattle.std.proofs.Common.{◌≡◌, IfOk, subst}
use Rattle.spx_core.specs.ResolvedExpressions.{resolved_expr}
use Rattle.spx_scope.specs.Seen.{seen}
use Rattle.spx_naming.proofs.expression.resolve_code.Goals as goal

pub returns : goal.returns
returns c = subst (λ scene. IfOk c.resolve_expr.result (λ r. r ≡ resolved_expr scene c.args.of (seen c.args.scope.now) c.args.expr.now)) c.in_code.ensures c.resolve_expr.ensures
