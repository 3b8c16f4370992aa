use Rattle.std.proofs.Common.{◌≡◌, ◌||◌, drop}
use Rattle.std.specs.List.{list_any}
use Rattle.indexmap.specs.IndexSet.{contains}
use Rattle.spx_text.specs.declared.place.Place.{Place}
use Rattle.spx_derives.specs.Tables.{is_effective, same_place}
use Rattle.spx_derives.proofs.occurrences.effective_places.Given as goal

abbrev pub invariant-loop-occurrence : goal.invariant-loop-occurrence
invariant-loop-occurrence l = (p : Place) → (list_any (is_effective l.exports p) (drop l.occurrence-index l.occurrences) || contains same_place l.places p) ≡ list_any (is_effective l.exports p) l.occurrences
