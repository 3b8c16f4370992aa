use Rattle.std.proofs.Common.{length, ap, ◌∙◌}
use Rattle.std.proofs.lemmas.Result.{IfOk-weaker}
use Rattle.spx_core.specs.ResolvedExpressions.{in_annotation}
use Rattle.spx_scope.specs.Seen.{seen}
use Rattle.spx_naming.proofs.BodyForms.{in_scene}
use Rattle.spx_naming.proofs.unit.resolve_statements.Goals as goal

pub returns-clause-statements : goal.returns-clause-statements
returns-clause-statements c =
    let scene = c.in_annotation-scene.ensures ∙ ap (λ types. in_annotation types c.args.changed.now) c.as_slice.ensures in
    IfOk-weaker c.resolve_stmts.result _ _
    (λ made are.
    in_scene c.in_annotation-scene.result c.args.tables.now.types c.args.changed.now (seen c.args.outer.now) c.as_slice-statements.result.now c.args.subprogram.now.statements
    c.args.region.now (length c.args.tables.now.vars) (length c.resolve_stmts.new.vars) made scene c.as_slice-statements.ensures are.0)
    c.resolve_stmts.ensures
