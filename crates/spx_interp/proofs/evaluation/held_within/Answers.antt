use Rattle.std.proofs.Common.{ap, ◌∙◌}
use Rattle.std.proofs.lemmas.Int.{to_z-of_z}
use Rattle.std.specs.Int.{w128}
use Rattle.spx_interp.specs.Results.{bounded}
use Rattle.spx_interp.proofs.BoundLaws.{bounded_is}
use Rattle.spx_interp.proofs.evaluation.held_within.Goals as goal

pub returns : goal.returns
returns c = λ x is.
    (rw (to_z-of_z w128 c.args.first c.ranges.first, to_z-of_z w128 c.args.last c.ranges.last) at c.bounded.ensures)
    ∙ ap (bounded c.args.first c.args.last c.args.bad.kind c.args.bad.place) is
    ∙ bounded_is c.args.first c.args.last c.args.bad.kind c.args.bad.place x c.ranges.first c.ranges.last
