use Rattle.std.proofs.Common.{◌≡◌, ◌++◌, map}
use Rattle.spx_derives.specs.declared.finding.FlowFinding.TheVariants.{Ineffective}
use Rattle.spx_derives.proofs.occurrences.add_ineffective.Given as goal

abbrev pub invariant-loop-place : goal.invariant-loop-place
invariant-loop-place l = l.found.items ++ map Ineffective l.place-iterator ≡ l.initial.found.items ++ map Ineffective l.places.keys
