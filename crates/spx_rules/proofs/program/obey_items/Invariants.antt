use Rattle.std.proofs.Common.{◌≡◌, drop}
use Rattle.spx_core.specs.Judged.{each}
use Rattle.spx_core.specs.Obeyed.{obeyed_item}
use Rattle.spx_rules.proofs.program.obey_items.Given as goal

abbrev pub invariant-loop-item : goal.invariant-loop-item
invariant-loop-item l = each (obeyed_item l.tables) l.items ≡ each (obeyed_item l.tables) (drop l.item-index l.items)
