use Rattle.spx_core.specs.ResolvedStatements.{parameters_by, parameters_by_alternative, parameters_by_arm, resolved_alternative, resolved_arm, resolved_stmt}
use Rattle.spx_scope.specs.Seen.{seen}
use Rattle.spx_naming.proofs.InOrder.{Goes}
use Rattle.spx_naming.proofs.statement.+resolve_stmt.Given as goal

abbrev pub invariant-resolve_stmts-loop-stmt : goal.invariant-resolve_stmts-loop-stmt
invariant-resolve_stmts-loop-stmt l =
    Goes (resolved_stmt l.scene.types l.scene.items (seen l.outer)) parameters_by l.stmts l.initial.region l.initial.vars l.region l.vars l.stmt-index l.resolved

abbrev pub invariant-resolve_arms-loop-arm : goal.invariant-resolve_arms-loop-arm
invariant-resolve_arms-loop-arm l =
    Goes (resolved_arm l.scene.types l.scene.items (seen l.outer)) parameters_by_arm l.arms l.initial.region l.initial.vars l.region l.vars l.arm-index l.resolved

abbrev pub invariant-resolve_alternatives-loop-alternative : goal.invariant-resolve_alternatives-loop-alternative
invariant-resolve_alternatives-loop-alternative l =
    Goes (resolved_alternative l.scene.types l.scene.items (seen l.outer)) parameters_by_alternative l.alternatives l.initial.region l.initial.vars l.region l.vars l.alternative-index l.resolved
