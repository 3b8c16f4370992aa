use Rattle.std.proofs.Common.{◌≡◌, take}
use Rattle.spx_findings.specs.Listing.{names_of}
use Rattle.spx_findings.proofs.listing.names_of.Given as goal

abbrev pub invariant-loop-field : goal.invariant-loop-field
invariant-loop-field l = l.names ≡ names_of (take l.field-index l.fields)
