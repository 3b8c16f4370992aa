use Rattle.spx_arena.specs.Claims.{trees_at}
use Rattle.spx_steps.specs.Listing.{steps_in}
use Rattle.spx_steps.proofs.ListingLaws.{cut_listed}
use Rattle.spx_steps.proofs.listing.list_cut.Goals as goal

pub returns : goal.returns
returns c =
    let s = c.args.steps.now in
    cut_listed s (trees_at s.terms c.args.known.now) c.args.cut (steps_in c.args.found.now) (steps_in c.list.new.found) c.new-before.result c.assume_all.new.path c.new-before.ensures c.in_ok-assume_all.ensures c.in_ok-list.ensures
