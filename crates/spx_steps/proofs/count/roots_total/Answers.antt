use Rattle.std.proofs.Common.{List, ◌∙◌, ap}
use Rattle.spx_steps.specs.Counts.{capped, paths_from}
use Rattle.spx_steps.specs.declared.steps.StepId.{StepId}
use Rattle.spx_steps.proofs.CountLaws.{all_roots}
use Rattle.spx_steps.proofs.count.roots_total.Goals as goal

pub returns : goal.returns
returns c =
    let s = c.args.steps.now in
    let most = c.args.most in
    all_roots s most c.args.known.now c.args.roots.now c.total_of-cuts.result c.capped_sum.result c.requires.known c.requires.roots.start
    (c.total_of-cuts.ensures ∙ ap (λ (ids : List StepId). capped most (paths_from s ids)) c.as_slice.ensures) c.capped_sum.ensures
