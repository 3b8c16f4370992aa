use Rattle.std.proofs.Common.{◌≡◌, ◌++◌, ◌-◌, map}
use Rattle.std.specs.List.{range_with_len}
use Rattle.spx_core.specs.Resolved.{sub_at}
use Rattle.spx_naming.proofs.unit.sub_ids.Given as goal

abbrev pub invariant-loop-position : goal.invariant-loop-position
invariant-loop-position l = l.ids ++ map sub_at (range_with_len l.position (l.count - l.position)) ≡ map sub_at (range_with_len 0 l.count)
