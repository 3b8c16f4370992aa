use Rattle.std.proofs.Common.{◌≡◌, drop}
use Rattle.std.specs.Option.{option_or}
use Rattle.indexmap.specs.IndexMap.{get}
use Rattle.spx_core.specs.declared.entity.VarId.{VarId}
use Rattle.spx_derives.specs.Tables.{place_in_names, same_var}
use Rattle.spx_derives.proofs.tables.add_exports.Given as goal

abbrev pub invariant-loop-name : goal.invariant-loop-name
invariant-loop-name l = (v : VarId) → option_or (get same_var l.places v) (place_in_names v (drop l.name-index l.names)) ≡ option_or (get same_var l.initial.places v) (place_in_names v l.names)
