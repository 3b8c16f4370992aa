use Rattle.std.proofs.Common.{rules}
use Rattle.std.proofs.lemmas.Int.{to_z-of_z}
use Rattle.std.specs.Int.{w128}
use Rattle.std.proofs.lemmas.Result.{IfOk-weaker}
use Rattle.spx_formula.proofs.GoalSteps.{adds_bound, all_range}
use Rattle.spx_formula.proofs.goals.in_range.Goals as goal

pub returns : goal.returns
returns c =
    let low = adds_bound _ _ c.in_ok-low.ensures (to_z-of_z w128 c.args.first (search rules)) in
    let high = adds_bound _ _ c.in_ok-high.ensures (to_z-of_z w128 c.args.last (search rules)) in
    IfOk-weaker c.from_slice.result _ _ (λ ids is. all_range c.args.first c.args.last c.requires low high is) c.from_slice.ensures
