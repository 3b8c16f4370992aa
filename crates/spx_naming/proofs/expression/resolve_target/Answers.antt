use Rattle.std.proofs.Common.{map, ap, ◌∙◌}
use Rattle.spx_core.specs.WrittenExpressions.{erased_expr}
use Rattle.spx_core.proofs.Callers.WrittenParts.{parts_written}
use Rattle.spx_scope.specs.Seen.{seen}
use Rattle.spx_naming.proofs.expression.resolve_target.Goals as goal

pub target_of-requires : goal.target_of-requires
target_of-requires c = ap (map erased_expr) c.in_ok-parts.ensures ∙ parts_written c.in_code.result (seen c.args.scope.now) c.as_slice-written.result.now
