use Rattle.std.proofs.lemmas.Result.{IfOk-weaker}
use Rattle.spx_arena.proofs.Ids.{wider_ids}
use Rattle.spx_formula.proofs.GoalSteps.{adds_guarded}
use Rattle.spx_formula.proofs.goals.guarded.Goals as goal

pub under-requires-clause-lefts : goal.under-requires-clause-lefts
under-requires-clause-lefts c = wider_ids c.args.lefts.now c.in_ok-goal-in-len1-up.ensures.grown.more c.requires.lefts

pub returns-in_ok-whole-in-len1-up : goal.returns-in_ok-whole-in-len1-up
returns-in_ok-whole-in-len1-up c = IfOk-weaker c.from_slice.result _ _ (λ ids is. adds_guarded c.args.lefts.now c.requires.lefts c.in-len1-up.len_at_least c.as_slice.ensures c.in_ok-goal-in-len1-up.ensures c.in_ok-whole-in-len1-up.ensures is) c.from_slice.ensures
