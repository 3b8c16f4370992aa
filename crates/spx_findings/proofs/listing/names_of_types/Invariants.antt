use Rattle.std.proofs.Common.{◌≡◌, map, take}
use Rattle.spx_findings.specs.Listing.{type_names}
use Rattle.spx_findings.proofs.listing.names_of_types.Given as goal

abbrev pub invariant-loop-row : goal.invariant-loop-row
invariant-loop-row l = l.names ≡ map type_names (take l.row-index l.program.types)
