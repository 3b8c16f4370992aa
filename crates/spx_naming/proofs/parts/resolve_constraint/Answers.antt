use Rattle.std.proofs.Common.{Some, option_map, ap, sym, ◌∙◌}
use Rattle.spx_core.specs.declared.statement.CoreRange.{CoreRange}
use Rattle.spx_core.specs.ResolvedExpressions.{resolved_range}
use Rattle.spx_core.specs.DeclaredNames.{around_names}
use Rattle.spx_scope.specs.Seen.{seen}
use Rattle.spx_naming.proofs.parts.resolve_constraint.Goals as goal

pub returns-in_ok-new-in-Some : goal.returns-in_ok-new-in-Some
returns-in_ok-new-in-Some c =
    let around = around_names (seen c.args.outer.now) c.args.region.now c.args.names.now in
    let resolved = c.in_ok-new-in-Some.ensures ∙ c.in_ok-resolved-in-Some.ensures ∙ ap (resolved_range c.args.scene.now c.args.of around) c.get.ensures in
    ap (λ (r : CoreRange). Some r) resolved ∙ ap (option_map (resolved_range c.args.scene.now c.args.of around)) (sym c.in-Some.is)
