use Rattle.std.proofs.Common.{◌≡◌, map, take}
use Rattle.spx_report.specs.FlowLines.{flow_line}
use Rattle.spx_report.proofs.flow.lines_of.Given as goal

abbrev pub invariant-loop-finding : goal.invariant-loop-finding
invariant-loop-finding l = l.lines.items ≡ map (flow_line l.program) (take l.finding-index l.found)
