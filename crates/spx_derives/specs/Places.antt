-- Where the exports of a dependency relation stand.
use Rattle.std.specs.Prelude.{Option, Some, None, option_map, List, [], ◌∷◌, find}
use Rattle.spx_text.specs.declared.place.Place.{Place}
use Rattle.spx_core.specs.declared.entity.VarId.{VarId}
use Rattle.spx_core.specs.declared.subprogram.Sub.{Sub}
use Rattle.spx_core.specs.declared.name.Reference.{Reference}
use Rattle.spx_core.specs.declared.dependency.CoreDerivesItem.{CoreDerivesItem}
use Rattle.spx_core.specs.Uses.{denotes}
use Rattle.spx_core.specs.Dependency.{relation}

abbrev pub place_in_item : VarId → CoreDerivesItem → Option Place
place_in_item export item = option_map (λ (name : Reference). name.root.name.place) (find (λ (name : Reference). denotes export name.root) item.exports)

abbrev pub place_or : Option Place → Place → Place
place_or (Some place) other = place
place_or None other = other

abbrev pub place_in_items : VarId → List CoreDerivesItem → Place → Place
place_in_items export [] heading = heading
place_in_items export (item ∷ items) heading = place_or (place_in_item export item) (place_in_items export items heading)

-- the first place of an export in the relation; for another variable, that of the heading
abbrev pub export_place : Sub → VarId → Place
export_place sub export = place_in_items export (relation sub) sub.place
