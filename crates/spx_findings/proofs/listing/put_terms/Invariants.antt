use Rattle.std.proofs.Common.{◌≡◌, ◌++◌, take}
use Rattle.spx_findings.specs.Listing.{term_lines}
use Rattle.spx_findings.proofs.listing.put_terms.Given as goal

abbrev pub invariant-loop-at : goal.invariant-loop-at
invariant-loop-at l = l.out.items ≡ l.initial.out.items ++ term_lines l.declared l.letter 1 (take l.at l.terms)
