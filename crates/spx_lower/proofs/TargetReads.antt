-- What an assignment reads: the indexes on the way, the right side, and, to a part, the variable itself.
use Rattle.std.proofs.Common.{◌≡◌, List, [], ◌∷◌, ◌++◌, sym, refl, ap, ap₂, ◌∙◌, append_assoc}
use Rattle.std.specs.List.{filter_map, flat_map}
use Rattle.std.proofs.lemmas.List.Elements.{filter_map-append}
use Rattle.spx_core.specs.declared.expression.CoreExpr.{CoreExpr}
use Rattle.spx_core.specs.declared.part.PartStep.{PartStep}
use Rattle.spx_core.specs.declared.part.Target.{Target}
use Rattle.spx_core.specs.Reads.{names_in_step, names_on_way, names_read, whole_read}
use Rattle.spx_core.specs.Effects.{read_of, reads_assigned, reads_of}
use Rattle.spx_lower.specs.Meaning.{reads_in_step}

-- step by step
way_reads : (way : List PartStep) → flat_map reads_in_step way ≡ filter_map read_of (names_on_way way)
way_reads [] = refl
way_reads (step ∷ way) = ap (λ l. reads_in_step step ++ l) (way_reads way) ∙ sym (filter_map-append read_of (names_in_step step) (names_on_way way))

-- part by part
pub assigned_reads : (target : Target) (e : CoreExpr) → (flat_map reads_in_step target.way ++ reads_of e) ++ filter_map read_of (whole_read target) ≡ reads_assigned target e
assigned_reads target e =
    let whole = filter_map read_of (whole_read target) in
    append_assoc (flat_map reads_in_step target.way) (reads_of e) whole
    ∙ ap₂ ◌++◌ (way_reads target.way) (sym (filter_map-append read_of (names_read e) (whole_read target)))
    ∙ sym (filter_map-append read_of (names_on_way target.way) (names_read e ++ whole_read target))
