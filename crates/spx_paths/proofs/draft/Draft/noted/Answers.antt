use Rattle.std.proofs.Common.{ap, sym}
use Rattle.spx_steps.specs.Trees.{step_tree}
use Rattle.spx_paths.specs.Enclosing.{counts}
use Rattle.spx_paths.specs.Walks.{noted_cut}
use Rattle.spx_paths.proofs.CutLists.{cuts_along, cuts_kept}
use Rattle.spx_paths.proofs.draft.Draft.noted.Goals as goal

pub returns-in_ok-id-in-Assert-clause-cuts : goal.returns-in_ok-id-in-Assert-clause-cuts
returns-in_ok-id-in-Assert-clause-cuts c =
    let next = c.args.next.now in
    cuts_kept
    (cuts_along c.in_ok-begin_cut-in-Assert.ensures.cuts
    (ap (λ kind. noted_cut c.args.body.now.program.now c.args.body.now.sub.now (counts next.within.now) kind c.args.condition.now (step_tree c.args.self.now.steps next.rest)) (sym c.in-Assert.is)))
    c.in_ok-id-in-Assert.ensures.grown
