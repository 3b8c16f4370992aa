use Rattle.std.proofs.Common.{ap}
use Rattle.spx_steps.specs.Listing.{steps_in}
use Rattle.spx_steps.proofs.ListingLaws.{all_listed}
use Rattle.spx_steps.proofs.listing.paths_from.Goals as goal

pub returns : goal.returns
returns c =
    all_listed c.args.steps.now c.args.roots.now (steps_in c.new-found.result) (steps_in c.list.new.found) (steps_in c.list_cuts.new.found) c.new.result c.as_slice.result.now c.as_slice-2.result.now
    (ap steps_in c.new-found.ensures) c.new.ensures c.as_slice.ensures c.as_slice-2.ensures c.in_ok-list.ensures c.in_ok-list_cuts.ensures
