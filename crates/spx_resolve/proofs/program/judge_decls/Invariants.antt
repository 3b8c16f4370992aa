use Rattle.std.proofs.Common.{◌≡◌, drop}
use Rattle.spx_core.specs.Judged.{each}
use Rattle.spx_core.specs.Statements.{judged_decl}
use Rattle.spx_resolve.proofs.program.judge_decls.Given as goal

abbrev pub invariant-loop-decl : goal.invariant-loop-decl
invariant-loop-decl l = each judged_decl l.decls ≡ each judged_decl (drop l.decl-index l.decls)
