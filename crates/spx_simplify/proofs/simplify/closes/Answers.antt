use Rattle.std.proofs.Common.{false, ap, ◌∙◌, subst, get_or}
use Rattle.spx_simplify.specs.Questions.{HasFacts}
use Rattle.spx_arena.proofs.Ids.{wider_lists}
use Rattle.spx_simplify.proofs.Claims.{plain_is, one_answer}
use Rattle.spx_simplify.proofs.simplify.closes.Goals as goal

pub answers-requires-clause-facts : goal.answers-requires-clause-facts
answers-requires-clause-facts c = wider_lists c.linked.new.lists c.in_ok-goal.ensures.grown.more c.in_ok-facts.ensures.all

pub returns : goal.returns
returns c =
    let hyps = c.args.sequent.now.hyps in
    let goal_tree = c.args.sequent.now.goal in
    plain_is (get_or c.as_slice-2.result.now 0 false) hyps goal_tree
    (ap (λ xs. get_or xs 0 false) (c.as_slice-2.ensures ∙ c.in_ok-answers.ensures.answers)
    ∙ one_answer c.linked.new.terms c.intern.new.self c.linked.new.lists (record { facts = c.in_ok-facts.facts; goal = c.in_ok-goal.goal }) hyps goal_tree
    (subst (HasFacts c.linked.new.terms c.linked.new.lists c.in_ok-facts.facts) c.as_slice.ensures c.in_ok-facts.ensures) c.in_ok-goal.ensures.grown c.in_ok-goal.ensures.interned)
