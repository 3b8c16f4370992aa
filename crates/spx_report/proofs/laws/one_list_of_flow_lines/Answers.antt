use Rattle.spx_report.proofs.LinesInOrder.{one_list_lem}
use Rattle.spx_report.proofs.laws.one_list_of_flow_lines.Goals as goal

pub returns : goal.returns
returns c = one_list_lem
