use Rattle.std.proofs.Common.{◌≡◌, ◌≢◌, [], arith, subst}
use Rattle.std.proofs.lemmas.Grind.{common_steps}
use Rattle.std.proofs.lemmas.Bool.Decides.{nat_tests}
use Rattle.spx_report.specs.FlowLines.{AreFlowLines}
use Rattle.spx_examiner.specs.Outcome.{narrow}
use Rattle.spx_examiner.proofs.Examined.{flow_first}
use Rattle.spx_examiner.proofs.phases.before_conditions.Goals as goal

pub returns-in-Ok-2-clause-report : goal.returns-in-Ok-2-clause-report
returns-in-Ok-2-clause-report c = λ conditions.
    let some : c.in-Ok.found.lines ≢ [] = λ e. grind (arith, common_steps, nat_tests, e) in
    narrow c.in-Ok.found.lines c.in-Ok.ensures.narrow c.in-Ok.ensures.exact (flow_first conditions _ c.in-Ok.found.lines some)

pub returns-in-Ok-clause-flows : goal.returns-in-Ok-clause-flows
returns-in-Ok-clause-flows c = λ none.
    let empty : c.in-Ok.found.lines ≡ [] = grind (arith, common_steps, nat_tests) in
    subst (AreFlowLines c.args.program.now) empty c.in-Ok.ensures.exact
