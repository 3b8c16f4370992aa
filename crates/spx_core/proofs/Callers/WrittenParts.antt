-- What is resolved is written as it was.
use Rattle.std.proofs.Common.{◌≡◌, List, map}
use Rattle.spx_tree.specs.declared.expression.Expr.{Expr}
use Rattle.spx_core.specs.Regions.{Regions}
use Rattle.spx_core.specs.ResolvedExpressions.{Scene, resolved_in}
use Rattle.spx_core.specs.WrittenExpressions.{erased_expr}
use Rattle.spx_core.proofs.Erasure.{kept_all}

pub parts_written : (scene : Scene) (regions : Regions) (parts : List Expr) → map erased_expr (map (resolved_in scene regions) parts) ≡ parts
parts_written = kept_all
