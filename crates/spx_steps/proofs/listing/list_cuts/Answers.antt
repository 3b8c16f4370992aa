use Rattle.spx_arena.specs.Claims.{trees_at}
use Rattle.spx_steps.specs.Listing.{steps_in}
use Rattle.spx_steps.proofs.CountLaws.{root_within}
use Rattle.spx_steps.proofs.ListingLaws.{next_listed}
use Rattle.spx_steps.proofs.listing.list_cuts.Goals as goal

pub list_cut-requires-clause-within : goal.list_cut-requires-clause-within
list_cut-requires-clause-within c = root_within c.args.cuts.now _ c.loop-cut.cut-index (record { 0 = 0 }) c.requires.within c.loop-cut-test.true

pub loop-cut-preserved : goal.loop-cut-preserved
loop-cut-preserved c =
    let s = c.args.steps.now in
    next_listed s (trees_at s.terms c.args.known.now) c.args.cuts.now c.loop-cut.cut-index (record { 0 = 0 }) (steps_in c.args.found.now) (steps_in c.loop-cut.found) (steps_in c.list_cut.new.found) c.loop-cut-test.true c.loop-cut.invariant c.in_ok-list_cut.ensures
