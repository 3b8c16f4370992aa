use Rattle.std.proofs.Common.{◌≡◌, false, take}
use Rattle.std.specs.List.{list_any}
use Rattle.spx_core.specs.FlowRules.{is_wide}
use Rattle.spx_report.specs.LineLists.{AreFindingsIn}
use Rattle.spx_report.proofs.flow.all_findings.Given as goal

abbrev pub invariant-loop-position : goal.invariant-loop-position
invariant-loop-position l = record {
  found : AreFindingsIn l.program (take l.position l.program.subs) l.all.items;
  narrow : list_any is_wide (take l.position l.program.subs) ≡ false;
}
