use Rattle.std.proofs.Common.{◌≡◌, ◌<◌, ◌↔◌, ℕ, Some, true, length, slice_get, is_some}
use Rattle.indexmap.specs.IndexMap.{get}
use Rattle.spx_core.specs.declared.entity.VarId.{VarId}
use Rattle.spx_rows.specs.Relations.{Has}
use Rattle.spx_derives.specs.Tables.{same_var}
use Rattle.spx_derives.proofs.tables.export_row.Given as goal

abbrev pub invariant-loop-w : goal.invariant-loop-w
invariant-loop-w l =
    (length l.row ≡ l.size)
    × ((k : ℕ) → Has l.row k ↔ ((y : VarId) × (k < l.w) × (slice_get l.vars k ≡ Some y) × (is_some (get same_var l.exports y) ≡ true)))
