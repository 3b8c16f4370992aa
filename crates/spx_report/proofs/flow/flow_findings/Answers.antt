use Rattle.std.proofs.Common.{◌≡◌, ◌↔◌, List, [], sym, subst}
use Rattle.spx_core.specs.FlowRules.{HasNoFlowFinding}
use Rattle.spx_report.specs.declared.report.Finding.{Finding}
use Rattle.spx_report.specs.FlowLines.{AreFlowLines}
use Rattle.spx_report.proofs.FlowFindingLaws.{are_none}
use Rattle.spx_report.proofs.LinesInOrder.{are_lines, flow_lines_are, no_lines}
use Rattle.spx_report.proofs.flow.flow_findings.Goals as goal

pub returns-clause-exact : goal.returns-clause-exact
returns-clause-exact c =
    let p = c.args.program.now in
    let found = c.in_ok-found.found.items in
    let lines = c.put_in_order.new.lines.items in
    let lent : c.as_slice.result.now ≡ found = cc in
    let are = are_lines p found c.as_slice.result.now c.in_ok-lines.lines.items lines lent c.in_ok-lines.ensures c.put_in_order.ensures in
    subst (AreFlowLines p) (sym c.from_vec.ensures) (flow_lines_are p found lines c.in_ok-found.ensures.exact are)

pub returns-clause-none : goal.returns-clause-none
returns-clause-none c =
    let p = c.args.program.now in
    let found = c.in_ok-found.found.items in
    let lines = c.put_in_order.new.lines.items in
    let lent : c.as_slice.result.now ≡ found = cc in
    let are = are_lines p found c.as_slice.result.now c.in_ok-lines.lines.items lines lent c.in_ok-lines.ensures c.put_in_order.ensures in
    let both = no_lines p found lines are in
    let none = are_none p found c.in_ok-found.ensures.exact in
    let all : (lines ≡ []) ↔ HasNoFlowFinding p = (λ h. none.0 (both.0 h), λ h. both.1 (none.1 h)) in
    subst (λ (ls : List Finding). (ls ≡ []) ↔ HasNoFlowFinding p) (sym c.from_vec.ensures) all
