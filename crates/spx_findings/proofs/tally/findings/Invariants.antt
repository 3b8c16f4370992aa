use Rattle.std.proofs.Common.{◌≡◌, None, take}
use Rattle.std.specs.Prelude.{filter_map}
use Rattle.spx_findings.specs.Findings.{row_at}
use Rattle.spx_findings.proofs.FindingLaws.{limit_in, lines_in}
use Rattle.spx_findings.proofs.tally.findings.Given as goal

abbrev pub invariant-loop-id : goal.invariant-loop-id
invariant-loop-id l = record {
  lines : l.found.lines ≡ lines_in l.program (take l.id-index l.program.bodies);
  rows : l.found.subs ≡ filter_map (row_at l.program) (take l.id-index l.program.bodies);
  few : limit_in l.program (take l.id-index l.program.bodies) ≡ None;
}
