use Rattle.std.proofs.Common.{◌≡◌, ◌||◌, ℕ, Some, drop, length}
use Rattle.std.specs.List.{list_any}
use Rattle.spx_core.specs.declared.entity.VarId.{VarId}
use Rattle.spx_core.specs.Mirror.DerivesItems.{has_pair}
use Rattle.spx_core.specs.Mirror.VarSets.{place_in_set}
use Rattle.spx_derives.specs.Tables.{pair_in}
use Rattle.spx_derives.proofs.tables.declared_pairs.Given as goal

abbrev pub invariant-loop-item : goal.invariant-loop-item
invariant-loop-item l =
    (length l.declared ≡ l.size)
    × ((u w : ℕ) (x y : VarId) → place_in_set l.vars x ≡ Some u → place_in_set l.vars y ≡ Some w → (list_any (has_pair x y) (drop l.item-index l.items) || pair_in l.declared u w) ≡ list_any (has_pair x y) l.items)
