use Rattle.std.proofs.Common.{◌≡◌, drop}
use Rattle.spx_core.specs.Judged.{each}
use Rattle.spx_core.specs.Statements.{judged_item}
use Rattle.spx_resolve.proofs.program.judge_relation.Given as goal

abbrev pub invariant-loop-item : goal.invariant-loop-item
invariant-loop-item l = each judged_item l.items ≡ each judged_item (drop l.item-index l.items)
