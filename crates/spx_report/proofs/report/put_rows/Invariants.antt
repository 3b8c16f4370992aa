use Rattle.std.proofs.Common.{◌≡◌, ◌++◌, take}
use Rattle.spx_report.specs.Report.{row_lines}
use Rattle.spx_report.proofs.report.put_rows.Given as goal

abbrev pub invariant-loop-row : goal.invariant-loop-row
invariant-loop-row l = l.out.items ≡ l.initial.out.items ++ row_lines l.program (take l.row-index l.rows)
