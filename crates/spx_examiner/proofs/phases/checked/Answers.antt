use Rattle.std.proofs.Common.{rules, [], Option, IfSome, IsNone, ap, sym, subst, ◌∙◌}
use Rattle.spx_findings.specs.Findings.{findings_of, first_limit}
use Rattle.spx_report.specs.Limits.{IsFaultOf}
use Rattle.spx_examiner.specs.declared.judgement.Judgement.{Judgement}
use Rattle.spx_examiner.specs.declared.judgement.Judgement.TheVariants.{Examined}
use Rattle.spx_examiner.specs.Outcome.{IsExamined, by_limit, narrow}
use Rattle.spx_examiner.proofs.phases.checked.Goals as goal

pub returns-in-Some : goal.returns-in-Some
returns-in-Some c =
    let p = c.args.program in
    (subst (λ (o : Option Judgement). IfSome o (λ j. (conditions : Judgement) → IsExamined p conditions j)) c.in-Some.is c.in_ok-judgement.ensures.report) (Examined p (findings_of p))

pub returns-in-Ok : goal.returns-in-Ok
returns-in-Ok c =
    let p = c.args.program in
    let none : IsNone c.in_ok-judgement.field-0 = search rules in
    narrow [] (c.in_ok-judgement.ensures.narrow none) (c.in_ok-judgement.ensures.flows none)
    (ap (λ found. Examined p found) c.in-Ok.ensures.exact ∙ sym (ap (by_limit (Examined p (findings_of p))) c.in-Ok.ensures.few))

pub returns-in-Err-Limit : goal.returns-in-Err-Limit
returns-in-Err-Limit c =
    let p = c.args.program in
    let none : IsNone c.in_ok-judgement.field-0 = search rules in
    let passed = subst (IsFaultOf (first_limit p)) c.in-Err-Limit.field-0-is c.in-Err-Limit.ensures.limit in
    narrow [] (c.in_ok-judgement.ensures.narrow none) (c.in_ok-judgement.ensures.flows none) (sym (ap (by_limit (Examined p (findings_of p))) passed))
