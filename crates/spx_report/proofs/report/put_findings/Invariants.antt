use Rattle.std.proofs.Common.{◌≡◌, ◌++◌, take}
use Rattle.spx_text.specs.Loads.{names}
use Rattle.spx_report.specs.Report.{finding_lines}
use Rattle.spx_report.proofs.report.put_findings.Given as goal

abbrev pub invariant-loop-finding : goal.invariant-loop-finding
invariant-loop-finding l = l.out.items ≡ l.initial.out.items ++ finding_lines (names l.files) (take l.finding-index l.findings)
