use Rattle.std.proofs.Common.{rules, [], ◌∷◌, Option, IfSome, IsNone, ap, sym, subst, ◌∙◌}
use Rattle.spx_text.specs.Loads.{names}
use Rattle.spx_findings.specs.Findings.{first_limit}
use Rattle.spx_report.specs.Limits.{IsFaultOf}
use Rattle.spx_findings.specs.Listing.{conditions_text}
use Rattle.spx_examiner.specs.declared.judgement.Judgement.{Judgement}
use Rattle.spx_examiner.specs.declared.judgement.Judgement.TheVariants.{Limit, Listed}
use Rattle.spx_examiner.specs.Outcome.{IsExamined, by_limit, narrow}
use Rattle.spx_examiner.proofs.phases.listed.Goals as goal

pub returns-in-Some : goal.returns-in-Some
returns-in-Some c =
    let p = c.args.program.now in
    (subst (λ (o : Option Judgement). IfSome o (λ j. (conditions : Judgement) → IsExamined p conditions j)) c.in-Some.is c.in_ok-judgement.ensures.report) (Listed (conditions_text p (c.args.file.now ∷ [])))

pub returns-in-Ok : goal.returns-in-Ok
returns-in-Ok c =
    let p = c.args.program.now in
    let none : IsNone c.in_ok-judgement.field-0 = search rules in
    let name = ap names c.as_slice.ensures.value ∙ c.in_ok-files.ensures in
    let text = c.in_ok-new-in-Ok.ensures ∙ c.as_slice-in-Ok.ensures.value ∙ c.in-Ok.ensures.text ∙ ap (conditions_text p) name in
    narrow [] (c.in_ok-judgement.ensures.narrow none) (c.in_ok-judgement.ensures.flows none)
    (ap (λ t. Listed t) text ∙ sym (ap (by_limit (Listed (conditions_text p (c.args.file.now ∷ [])))) c.in-Ok.ensures.few))

pub returns-in-Err-Limit : goal.returns-in-Err-Limit
returns-in-Err-Limit c =
    let p = c.args.program.now in
    let all = Listed (conditions_text p (c.args.file.now ∷ [])) in
    let none : IsNone c.in_ok-judgement.field-0 = search rules in
    let passed = subst (IsFaultOf (first_limit p)) c.in-Err-Limit.field-0-is c.in-Err-Limit.ensures.limit in
    subst (λ name. IsExamined p all (Limit name)) (sym c.in-Err-Limit.passed-is)
    (narrow [] (c.in_ok-judgement.ensures.narrow none) (c.in_ok-judgement.ensures.flows none) (sym (ap (by_limit all) passed)))
