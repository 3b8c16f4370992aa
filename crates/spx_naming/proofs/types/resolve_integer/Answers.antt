use Rattle.std.proofs.Common.{length, ap, ap₂, ◌∙◌}
use Rattle.std.proofs.lemmas.Result.{IfOk-weaker}
use Rattle.spx_core.specs.declared.rule.ExprType.TheVariants.{Universal}
use Rattle.spx_core.specs.ResolvedExpressions.{in_declaration, resolved_range}
use Rattle.spx_core.specs.DeclaredNames.{around_names}
use Rattle.spx_core.specs.ResolvedDeclarations.{integer_decl}
use Rattle.spx_scope.specs.Seen.{seen}
use Rattle.spx_naming.proofs.types.resolve_integer.Goals as goal

pub returns : goal.returns
returns c =
    let range_is = c.in_ok-range.ensures ∙ ap₂ (λ types names. resolved_range (in_declaration types) Universal (around_names (seen c.args.outer.now) c.args.region.now names) c.args.range.now) c.as_slice.ensures c.from_ref-hidden.ensures.value in
    IfOk-weaker c.declare_integer.result _ _
    (λ d made. (made.0 ∙ ap (integer_decl c.args.region.now (length c.args.types.now) c.args.name.now) range_is, made.1, made.2)) c.declare_integer.ensures
