use Rattle.std.proofs.Common.{◌≡◌, drop}
use Rattle.spx_core.specs.Judged.{each}
use Rattle.spx_core.specs.Statements.{judged_name}
use Rattle.spx_resolve.proofs.program.judge_names.Given as goal

abbrev pub invariant-loop-sub : goal.invariant-loop-sub
invariant-loop-sub l = each judged_name l.subs ≡ each judged_name (drop l.sub-index l.subs)
