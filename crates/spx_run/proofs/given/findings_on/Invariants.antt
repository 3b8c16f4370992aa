use Rattle.std.proofs.Common.{◌≡◌, ◌++◌, [], drop}
use Rattle.spx_run.specs.Given.{findings_on}
use Rattle.spx_run.proofs.given.findings_on.Given as goal

abbrev pub invariant-loop-line : goal.invariant-loop-line
invariant-loop-line l =
    l.found ++ findings_on l.entry.program.now l.entry.sub.now l.file l.earlier (drop l.line-index l.lines) ≡ findings_on l.entry.program.now l.entry.sub.now l.file [] l.lines
