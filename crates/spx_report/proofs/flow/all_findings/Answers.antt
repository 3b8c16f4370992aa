use Rattle.std.proofs.Common.{◌<◌, ◌≤◌, ◌+◌, ◌||◌, Bool, List, length, take, sym, ap, ap₂, ◌∙◌, subst, arith}
use Rattle.std.proofs.lemmas.List.{take_all}
use Rattle.std.proofs.lemmas.List.Folds.{list_any_at, list_any_more}
use Rattle.std.proofs.lemmas.Result.{err_from_is_err_and}
use Rattle.spx_core.specs.declared.subprogram.Sub.{Sub}
use Rattle.spx_core.specs.FlowRules.{has_many_variables, is_wide}
use Rattle.spx_report.specs.declared.limit.LimitName.TheVariants.{Variables}
use Rattle.spx_report.specs.LineLists.{AreFindingsIn}
use Rattle.spx_report.proofs.FaultLaws.{fault_of_all}
use Rattle.spx_report.proofs.FlowFindingLaws.{are_more}
use Rattle.spx_report.proofs.Members.{element_at}
use Rattle.spx_report.proofs.flow.all_findings.Goals as goal

pub loop-position-preserved : goal.loop-position-preserved
loop-position-preserved c =
    let p = c.args.program.now in
    let at = c.loop-position.position in
    let within : at < length p.subs = omega (arith, c.len-position-end.ensures) in
    let here = element_at p.subs at within in
    let narrow = c.in_ok-found.ensures.narrow here.0 here.1 in
    record {
      found = subst (AreFindingsIn p (take (at + 1) p.subs)) (sym c.in_ok-append.ensures.items) (are_more p p.subs at here.0 c.loop-position.all.items c.in_ok-found.found.items within here.2 c.loop-position.invariant.found (c.in_ok-found.ensures.exact here.0 here.1));
      narrow = list_any_more is_wide p.subs at here.0 within ∙ ap₂ (λ (a b : Bool). a || b) c.loop-position.invariant.narrow (ap is_wide here.2 ∙ narrow);
    }

pub returns-in_err-found-clause-refused : goal.returns-in_err-found-clause-refused
returns-in_err-found-clause-refused c =
    let p = c.args.program.now in
    let at = c.loop-position.position in
    let within : at < length p.subs = omega (arith, c.len-position-end.ensures) in
    let here = element_at p.subs at within in
    let passed = err_from_is_err_and c.from_residual.result c.from_residual.ensures.1 in
    let refused = fault_of_all Variables (is_wide here.0) (has_many_variables p) c.in_err-found.field-0.0
    (λ wide. list_any_at is_wide p.subs at here.0 within (ap is_wide here.2 ∙ wide))
    (c.in_err-found.ensures.refused here.0 here.1) in
    rw (passed.1, passed.2) refused

pub returns-clause-exact : goal.returns-clause-exact
returns-clause-exact c =
    let p = c.args.program.now in
    let at = c.loop-position.position in
    let walked : length p.subs ≤ at = omega (arith, c.len-position-end.ensures) in
    subst (λ (subs : List Sub). AreFindingsIn p subs c.loop-position.all.items) (take_all at p.subs walked) c.loop-position.invariant.found
