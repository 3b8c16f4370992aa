use Rattle.spx_arena.specs.Claims.{trees_at}
use Rattle.spx_steps.proofs.CountLaws.{root_within}
use Rattle.spx_steps.proofs.WalkLaws.{claims_not, next_cut}
use Rattle.spx_steps.proofs.walk.Walk.walk_cuts.Goals as goal

pub loop-cut-init : goal.loop-cut-init
loop-cut-init c = claims_not c.requires.ready

pub walk_cut-requires-clause-within : goal.walk_cut-requires-clause-within
walk_cut-requires-clause-within c = root_within c.args.cuts.now _ c.loop-cut.cut-index (record { 0 = 0 }) c.requires.within c.loop-cut-test.true

pub loop-cut-preserved : goal.loop-cut-preserved
loop-cut-preserved c =
    let s = c.args.steps.now in
    next_cut s (trees_at s.terms c.args.known.now) c.args.cuts.now c.loop-cut.cut-index (record { 0 = 0 }) c.loop-cut-test.true c.loop-cut.invariant c.in_ok-walk_cut.ensures
