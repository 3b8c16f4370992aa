-- The sets of variables that resolution looks up in the items of a dependency relation.
use Rattle.std.specs.Prelude.{◌≡◌, ℕ, List, [], Option, Some, None}
use Rattle.spx_core.specs.declared.entity.VarId.{VarId}
use Rattle.spx_core.specs.declared.dependency.CoreDerivesItem.{CoreDerivesItem}
use Rattle.spx_core.specs.Dependency.{is_exported_by, is_imported_by}
use Rattle.spx_core.specs.Mirror.VarSets.{holds}

pub record AreEndsOf (items : List CoreDerivesItem) (imports exports : List ℕ) : Type 0 where
  pub imported : (v : VarId) → holds imports v ≡ is_imported_by items v
  pub exported : (v : VarId) → holds exports v ≡ is_exported_by items v

-- the items of a relation, if there is one
abbrev pub items_if_any : Option (List CoreDerivesItem) → List CoreDerivesItem
items_if_any (Some items) = items
items_if_any None = []
