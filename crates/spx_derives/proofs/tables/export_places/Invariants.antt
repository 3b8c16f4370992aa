use Rattle.std.proofs.Common.{◌≡◌, drop}
use Rattle.std.specs.Option.{option_or}
use Rattle.indexmap.specs.IndexMap.{get}
use Rattle.spx_core.specs.declared.entity.VarId.{VarId}
use Rattle.spx_derives.specs.Tables.{first_place, same_var}
use Rattle.spx_derives.proofs.tables.export_places.Given as goal

abbrev pub invariant-loop-item : goal.invariant-loop-item
invariant-loop-item l = (v : VarId) → option_or (get same_var l.places v) (first_place v (drop l.item-index l.items)) ≡ first_place v l.items
