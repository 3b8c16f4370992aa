use Rattle.std.proofs.Common.{◌≡◌, take}
use Rattle.spx_run.specs.Given.{named_by}
use Rattle.spx_run.proofs.given.named_by.Given as goal

abbrev pub invariant-loop-line : goal.invariant-loop-line
invariant-loop-line l = l.named ≡ named_by l.entry.program.now l.entry.sub.now (take l.line-index l.lines)
