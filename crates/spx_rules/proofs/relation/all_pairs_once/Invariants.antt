use Rattle.std.proofs.Common.{◌≡◌, drop}
use Rattle.std.specs.List.{list_all}
use Rattle.spx_core.specs.Obeyed.{pairs_once}
use Rattle.spx_rules.proofs.relation.all_pairs_once.Given as goal

abbrev pub invariant-loop-item : goal.invariant-loop-item
invariant-loop-item l = list_all pairs_once l.items ≡ list_all pairs_once (drop l.item-index l.items)
