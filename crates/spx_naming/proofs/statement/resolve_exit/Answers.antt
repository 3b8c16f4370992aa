use Rattle.std.proofs.Common.{◌∷◌, Some, ap, ap₂, ◌∙◌}
use Rattle.spx_core.specs.declared.statement.CoreStmt.TheVariants as stmt
use Rattle.spx_core.specs.ResolvedExpressions.{in_code, resolved_condition}
use Rattle.spx_scope.specs.Seen.{seen}
use Rattle.spx_naming.proofs.statement.resolve_exit.Goals as goal

pub returns-in_ok-condition-in-Some : goal.returns-in_ok-condition-in-Some
returns-in_ok-condition-in-Some c =
    rw c.in-Some.is
    (ap (λ e. stmt.Exit c.args.place (Some e))
    (c.in_ok-condition-in-Some.ensures ∙ ap₂ (λ types e. resolved_condition (in_code types) (c.args.region.now ∷ seen c.args.outer.now) e) c.types.ensures c.get-condition.ensures))
