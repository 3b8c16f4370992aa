-- Names that are gone over once, with a set of the variables named so far.
use Rattle.std.specs.Prelude.{Bool, true, not, ◌&&◌, ◌||◌, List, [], ◌∷◌}
use Rattle.std.specs.List.{flat_map}
use Rattle.spx_core.specs.declared.entity.VarId.{VarId}
use Rattle.spx_core.specs.declared.name.Reference.{Reference}
use Rattle.spx_core.specs.declared.dependency.CoreDerivesItem.{CoreDerivesItem}
use Rattle.spx_core.specs.Uses.{denotes, variable_is, variable_of}

-- the name denotes a variable of the set
abbrev pub is_in : (VarId → Bool) → Reference → Bool
is_in set name = variable_is set (variable_of name.root.entity)

-- no name denotes a variable of the set or one that is named before it
abbrev pub all_new : (VarId → Bool) → List Reference → Bool
all_new set [] = true
all_new set (name ∷ names) = not (is_in set name) && all_new (λ v. denotes v name.root || set v) names

-- the exports of all items, in their order
abbrev pub exports_in : List CoreDerivesItem → List Reference
exports_in items = flat_map (λ (item : CoreDerivesItem). item.exports) items
