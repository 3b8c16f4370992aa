-- What a judgement finds at a step of a way (Ada 95 RM 5.2).
use Rattle.std.specs.Prelude.{◌≡◌, List, ◌∷◌}
use Rattle.spx_text.specs.declared.place.Place.{Place}
use Rattle.spx_core.specs.declared.entity.Subtype.{Subtype}
use Rattle.spx_core.specs.declared.part.PartStep.{PartStep}
use Rattle.spx_core.specs.Judged.{Judged, ◌>>=◌, judged_way}

-- this is what is found at a step from an object of this type: any way goes on from the part where the step breaks no rule
abbrev pub FoundAtStep : Place → Subtype → PartStep → Judged Subtype → Type 0
FoundAtStep place subtype step found = (way : List PartStep) → judged_way place subtype (step ∷ way) ≡ (found >>= λ part. judged_way place part way)
