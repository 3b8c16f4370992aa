use Rattle.std.proofs.Common.{◌≡◌, ◌++◌, take}
use Rattle.std.specs.List.{flat_map}
use Rattle.spx_text.specs.Loads.{names}
use Rattle.spx_run.specs.Results.{input_line}
use Rattle.spx_run.proofs.printing.put_findings.Given as goal

abbrev pub invariant-loop-finding : goal.invariant-loop-finding
invariant-loop-finding l = l.out.items ≡ l.initial.out.items ++ flat_map (input_line (names l.files)) (take l.finding-index l.findings)
