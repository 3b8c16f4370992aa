use Rattle.spx_paths.specs.Enclosing.{counts}
use Rattle.spx_paths.proofs.BuildLaws.{cut_begun}
use Rattle.spx_paths.proofs.draft.Draft.begin_cut.Goals as goal

pub returns-clause-cuts : goal.returns-clause-cuts
returns-clause-cuts c = cut_begun (counts c.args.next.now.within.now) c.args.condition.now c.args.next.now.rest c.requires.leads.rest c.in_ok-parts.ensures c.as_slice.result.now c.as_slice.ensures c.in_ok-id.ensures c.in_ok-push.ensures.ok
