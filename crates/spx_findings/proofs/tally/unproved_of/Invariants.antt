use Rattle.std.proofs.Common.{◌≡◌, take}
use Rattle.spx_arena.specs.Claims.{claims_in}
use Rattle.spx_paths.specs.Conditions.{numbered}
use Rattle.spx_findings.specs.Findings.{unproved_of}
use Rattle.spx_findings.proofs.tally.unproved_of.Given as goal

abbrev pub invariant-loop-at : goal.invariant-loop-at
invariant-loop-at l = l.found ≡ unproved_of (numbered l.sub.name.name.text 1 (take l.at (claims_in l.claims)))
