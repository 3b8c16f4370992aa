use Rattle.std.proofs.Common.{rules}
use Rattle.std.proofs.lemmas.Int.{to_z-of_z}
use Rattle.std.specs.Int.{w128}
use Rattle.std.proofs.lemmas.Result.{IfOk-weaker}
use Rattle.spx_formula.proofs.GoalSteps.{adds_range_goal}
use Rattle.spx_formula.proofs.goals.range_goal.Goals as goal

pub returns : goal.returns
returns c =
    let subtype = c.args.subtype in
    IfOk-weaker c.from_slice.result _ _ (λ ids is. adds_range_goal subtype c.requires.0 c.requires.1 c.in_ok-some.ensures.added c.in_ok-first.ensures c.in_ok-last.ensures c.in_ok-both.ensures.added c.in_ok-goal.ensures.added is
    (to_z-of_z w128 subtype.first (search rules)) (to_z-of_z w128 subtype.last (search rules))) c.from_slice.ensures
