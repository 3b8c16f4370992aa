use Rattle.std.proofs.Common.{◌≡◌, None, take}
use Rattle.spx_text.specs.Loads.{names}
use Rattle.spx_findings.proofs.FindingLaws.{limit_in}
use Rattle.spx_findings.proofs.ListingLaws.{text_in}
use Rattle.spx_findings.proofs.listing.conditions_text.Given as goal

abbrev pub invariant-loop-id : goal.invariant-loop-id
invariant-loop-id l = record {
  text : l.out.items ≡ text_in l.program (names l.files) (take l.id-index l.program.bodies);
  few : limit_in l.program (take l.id-index l.program.bodies) ≡ None;
}
