use Rattle.std.proofs.Common.{◌≡◌, drop}
use Rattle.spx_core.specs.Judged.{each}
use Rattle.spx_core.specs.Statements.{judged_sub}
use Rattle.spx_resolve.proofs.program.judge_subs.Given as goal

abbrev pub invariant-loop-sub : goal.invariant-loop-sub
invariant-loop-sub l = each judged_sub l.subs ≡ each judged_sub (drop l.sub-index l.subs)
