use Rattle.std.proofs.Common.{rules, ◌∙◌}
use Rattle.std.proofs.lemmas.Int.{to_z-of_z}
use Rattle.std.specs.Int.{w128}
use Rattle.std.proofs.lemmas.Result.{IfOk-weaker}
use Rattle.spx_formula.specs.Goals.{in_range}
use Rattle.spx_arena.specs.Sharing.{tree_at}
use Rattle.spx_formula.proofs.GoalSteps.{adds_made, all_along, all_none, all_one, of_numbers, of_parts, of_truth}
use Rattle.spx_formula.proofs.goals.in_type.Goals as goal

pub returns-in-Integer : goal.returns-in-Integer
returns-in-Integer c = IfOk-weaker c.in_range.result _ _ (λ ids a. all_along a ((λ i. in_range (to_z-of_z w128 c.args.subtype.first (search rules) i) (to_z-of_z w128 c.args.subtype.last (search rules) i) (tree_at c.args.terms.now c.args.value)) ∙ of_numbers c.args.subtype (tree_at c.args.terms.now c.args.value) c.in-Integer.is)) c.in_range.ensures

pub returns-in-Boolean : goal.returns-in-Boolean
returns-in-Boolean c = all_along (all_none c.args.terms.now c.new.ensures) (of_truth c.args.subtype (tree_at c.args.terms.now c.args.value) c.in-Boolean.is)

pub returns-in_ok-goal-in-Composite : goal.returns-in_ok-goal-in-Composite
returns-in_ok-goal-in-Composite c =
    IfOk-weaker c.from_slice.result _ _ (λ ids is. all_along (all_one (adds_made c.make.ensures.grown c.in_ok-goal-in-Composite.ensures.made) is) (of_parts c.args.subtype (tree_at c.args.terms.now c.args.value) c.in-Composite.is)) c.from_slice.ensures
