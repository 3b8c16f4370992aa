use Rattle.std.proofs.Common.{ap, ap₂, ◌∙◌}
use Rattle.spx_core.specs.declared.statement.CoreStmt.TheVariants as stmt
use Rattle.spx_core.specs.ResolvedExpressions.{in_code, resolved_expr, resolved_target, type_of_target}
use Rattle.spx_scope.specs.Seen.{seen}
use Rattle.spx_naming.proofs.statement.resolve_assignment.Goals as goal

pub returns : goal.returns
returns c =
    let types = c.types-types.ensures in
    let scope = c.inside-scope.ensures in
    let target = c.in_ok-target.ensures ∙ ap₂ (λ types regions. resolved_target types regions c.args.target.now) types scope in
    let of = ap type_of_target (c.get.ensures ∙ target) in
    let value = c.in_ok-value.ensures ∙ ap (λ types. resolved_expr (in_code types) (type_of_target c.get.result.now) (seen c.inside-scope.result) c.args.value.now) types ∙ ap₂ (λ type regions. resolved_expr (in_code c.args.scene.now.types) type regions c.args.value.now) of scope in
    ap₂ stmt.Assignment target value
