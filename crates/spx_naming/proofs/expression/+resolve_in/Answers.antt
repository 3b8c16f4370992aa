use Rattle.std.proofs.Common.{map, ap, ◌∙◌}
use Rattle.std.proofs.lemmas.Result.{IfOk-weaker}
use Rattle.spx_core.specs.WrittenExpressions.{erased_expr}
use Rattle.spx_core.proofs.Callers.WrittenParts.{parts_written}
use Rattle.spx_scope.specs.Seen.{seen}
use Rattle.spx_naming.proofs.MembershipForms.{tested_in}
use Rattle.spx_naming.proofs.expression.+resolve_in.Goals as goal

pub resolve_in-resolve_value-requires : goal.resolve_in-resolve_value-requires
resolve_in-resolve_value-requires t c = ap (map erased_expr) c.in_ok-parts-in-Name.ensures ∙ parts_written c.args.scene.now (seen c.args.scope.now) c.as_slice-written.result.now

pub resolve_in-returns-in_ok-tested-in-InType : goal.resolve_in-returns-in_ok-tested-in-InType
resolve_in-returns-in_ok-tested-in-InType t c =
    let e = c.in-InType in
    let tested = rw c.get-in-InType.ensures at c.in_ok-tested-in-InType.ensures in
    IfOk-weaker c.resolve_in_type.result _ _
    (λ r is. is ∙ tested_in c.args.scene.now (seen c.args.scope.now) c.args.expr.now e.op e.place e.tested e.path e.parts c.as_slice-parts.result.now c.in_ok-tested-in-InType.tested e.is tested c.as_slice-parts.ensures)
    c.resolve_in_type.ensures
