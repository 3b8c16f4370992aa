use Rattle.std.proofs.Common.{rules}
use Rattle.std.proofs.lemmas.Int.{to_z-of_z}
use Rattle.std.specs.Int.{w128}
use Rattle.std.proofs.lemmas.Result.{IfOk-weaker}
use Rattle.spx_formula.proofs.GoalSteps.{adds_bound, all_one}
use Rattle.spx_formula.proofs.goals.one_goal.Goals as goal

pub returns : goal.returns
returns c = IfOk-weaker c.from_slice.result _ _ (λ ids is. all_one (adds_bound _ _ c.in_ok-goal.ensures (to_z-of_z w128 c.args.bound (search rules))) is) c.from_slice.ensures
