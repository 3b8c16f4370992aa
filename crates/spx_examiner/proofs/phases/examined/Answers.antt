use Rattle.std.proofs.Common.{[], ◌∷◌, Err, ap, ◌∙◌}
use Rattle.spx_text.specs.declared.place.Place.{Place}
use Rattle.spx_run.specs.declared.inputs.InputFault.{InputFault}
use Rattle.spx_run.specs.declared.result.InputFinding.TheVariants.{BadLine}
use Rattle.spx_run.specs.declared.result.RunResult.TheVariants.{Refused}
use Rattle.spx_examiner.specs.declared.judgement.Judgement.TheVariants.{Ran}
use Rattle.spx_examiner.specs.Outcome.{of_line}
use Rattle.spx_examiner.proofs.Spelled.{if_ok}
use Rattle.spx_examiner.proofs.phases.examined.Goals as goal

pub returns-in-Err-BadLine : goal.returns-in-Err-BadLine
returns-in-Err-BadLine c =
    let place = c.in-Err-BadLine.place in
    let bad = c.in-Err-BadLine.ensures.bad place (ap (λ (fault : InputFault). Err fault) c.in-Err-BadLine.field-0-is) in
    if_ok c.refused_at.result _ _ (λ j is. of_line place.line bad.0 (is ∙ ap (λ (p : Place). Ran (Refused (BadLine p ∷ []))) (c.in-Err-BadLine.place-is ∙ bad.1))) c.refused_at.ensures
