use Rattle.std.proofs.Common.{◌+◌, ◌*◌}
use Rattle.spx_steps.specs.Walks.{OnlyTerms}
use Rattle.spx_steps.proofs.walk.Walk.+value_of.Given as goal

abbrev pub decreases-made_of : goal.decreases-made_of
decreases-made_of l = 4 * l.id.0

abbrev pub decreases-kept_of : goal.decreases-kept_of
decreases-kept_of l = 4 * l.id.0 + 1

abbrev pub decreases-fill : goal.decreases-fill
decreases-fill l = 4 * l.id.0 + 2

abbrev pub decreases-value_of : goal.decreases-value_of
decreases-value_of l = 4 * l.id.0 + 3

abbrev pub invariant-fill-parts : goal.invariant-fill-parts
invariant-fill-parts l = OnlyTerms l.names l.initial.self l.self
