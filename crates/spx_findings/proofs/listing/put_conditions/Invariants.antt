use Rattle.std.proofs.Common.{◌≡◌, ◌++◌, take}
use Rattle.spx_text.specs.Loads.{names}
use Rattle.spx_findings.specs.Listing.{lines_of_conditions}
use Rattle.spx_findings.proofs.listing.put_conditions.Given as goal

abbrev pub invariant-loop-condition : goal.invariant-loop-condition
invariant-loop-condition l = l.out.items ≡ l.initial.out.items ++ lines_of_conditions (names l.files) l.declared (take l.condition-index l.conditions)
