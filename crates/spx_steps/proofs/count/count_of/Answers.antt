use Rattle.std.proofs.Common.{◌∙◌, ap, length, subst}
use Rattle.spx_arena.specs.Claims.{trees_at}
use Rattle.spx_steps.specs.declared.steps.Step.{Step}
use Rattle.spx_steps.specs.Trees.{Below, step_in, step_tree}
use Rattle.spx_steps.proofs.CountLaws.{count_check, count_next}
use Rattle.spx_steps.proofs.count.count_of.Goals as goal

pub returns-in-Check : goal.returns-in-Check
returns-in-Check c =
    let s = c.args.steps.now in
    let x = c.in-Check in
    let below = subst (λ (y : Step). Below (length s.terms) c.args.at.0 y) x.is c.step.ensures.below in
    count_next c.args.at x.next c.requires.known below.1 (c.step.ensures.tree ∙ ap (step_in s) x.is) (count_check x.field-0 x.field-1 (trees_at s.terms x.field-2) (step_tree s x.next))
