use Rattle.std.proofs.Common.{◌∙◌}
use Rattle.spx_arena.specs.Claims.{trees_at}
use Rattle.spx_steps.specs.Trees.{cut_tree, step_tree}
use Rattle.spx_steps.proofs.WalkLaws.{root_claimed}
use Rattle.spx_steps.proofs.walk.Walk.walk_cut.Goals as goal

pub all_assumed-requires-clause-ready : goal.all_assumed-requires-clause-ready
all_assumed-requires-clause-ready c = (c.begin_anew.ensures c.args.steps.now.terms c.requires.ready).ready

pub returns : goal.returns
returns c =
    let s = c.args.steps.now in
    let ends = c.in_ok-walk.ensures in
    root_claimed (cut_tree s (trees_at s.terms c.args.known.now) c.args.cut) (c.begin_anew.ensures s.terms c.requires.ready) (c.in_ok-all_assumed.ensures.same (step_tree s c.args.cut) ∙ ends.same) ends.ready
