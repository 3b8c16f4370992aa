use Rattle.spx_report.proofs.SomeLines.{some_lines}
use Rattle.spx_report.proofs.laws.some_list_of_flow_lines.Goals as goal

pub returns : goal.returns
returns c = some_lines c.some_findings.ensures
