use Rattle.std.proofs.Common.{◌≡◌, ◌&&◌, ◌||◌, ◌==◌, ℕ, Some, drop, length, is_some}
use Rattle.spx_core.specs.declared.entity.VarId.{VarId}
use Rattle.spx_core.specs.Uses.{mentions}
use Rattle.spx_core.specs.Mirror.VarSets.{place_in_set}
use Rattle.spx_derives.specs.Tables.{pair_in}
use Rattle.spx_derives.proofs.tables.add_item.Given as goal

abbrev pub invariant-loop-name : goal.invariant-loop-name
invariant-loop-name l =
    (length l.declared ≡ length l.initial.declared)
    × ((u w : ℕ) (x y : VarId) → place_in_set l.vars x ≡ Some u → place_in_set l.vars y ≡ Some w → ((mentions y (drop l.name-index l.item.exports) && (mentions x l.item.imports || (is_some l.item.itself && (x.0 == y.0)))) || pair_in l.declared u w) ≡ ((mentions y l.item.exports && (mentions x l.item.imports || (is_some l.item.itself && (x.0 == y.0)))) || pair_in l.initial.declared u w))
