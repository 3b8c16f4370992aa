use Rattle.std.proofs.Common.{subst, ◌∙◌}
use Rattle.spx_term.specs.Plain.{is_plain}
use Rattle.spx_arena.specs.Sharing.{tree_at}
use Rattle.spx_simplify.specs.Verdicts.{Parts, IsVerdict}
use Rattle.spx_simplify.proofs.Outcomes.{first_up_to, first_left, first_less, first_same, next_up_to, next_left, next_same}
use Rattle.spx_simplify.proofs.goals.+follows.Goals as goal

pub follows-goals-smaller-in-First : goal.follows-goals-smaller-in-First
follows-goals-smaller-in-First t c =
    let ts = c.args.terms.now in
    let h = subst (Parts ts c.goals.at) c.in-First.is c.in_ok-found.ensures.parts in
    first_less ts c.args.goal c.goals.at c.goals.left c.goals.invariant.at c.goals.invariant.within c.in-First.first c.in-First.second c.push.new.self h c.in_ok-push-in-First.ensures.ok

pub follows-goals-preserved-in-First : goal.follows-goals-preserved-in-First
follows-goals-preserved-in-First t c =
    let ts = c.args.terms.now in
    let i = c.goals.invariant in
    let s = c.in_ok-found.ensures in
    let l = c.in-First.second in
    let h = subst (Parts ts c.goals.at) c.in-First.is s.parts in
    record {
      at = first_up_to ts c.args.goal c.goals.at c.goals.left i.at i.within c.in-First.first l c.push.new.self h c.in_ok-push-in-First.ensures.ok;
      within = first_left ts c.args.goal c.goals.at c.goals.left i.at i.within c.in-First.first l c.push.new.self h c.in_ok-push-in-First.ensures.ok;
      sized = s.sized;
      knows = λ hyps knows. s.knows hyps (i.knows hyps knows);
      same = λ hyps knows.
          first_same ts c.args.goal c.goals.at c.goals.left i.at i.within c.in-First.first l c.push.new.self h c.in_ok-push-in-First.ensures.ok hyps (is_plain hyps (tree_at ts c.args.goal))
          (subst (IsVerdict ts hyps c.goals.at) c.in-First.is (s.verdict hyps (i.knows hyps knows))) (i.same hyps knows);
    }

pub follows-goals-preserved-in-Some : goal.follows-goals-preserved-in-Some
follows-goals-preserved-in-Some t c =
    let ts = c.args.terms.now in
    let i = c.goals.invariant in
    let s = c.in_ok-found.ensures in
    record {
      at = next_up_to ts c.args.goal c.goals.at c.goals.left i.at i.within c.in-Settled.yes c.in-Some.goal c.next.new.left c.in-Some.ensures;
      within = next_left ts c.args.goal c.goals.at c.goals.left i.at i.within c.in-Settled.yes c.in-Some.goal c.next.new.left c.in-Some.ensures;
      sized = s.sized;
      knows = λ hyps knows. s.knows hyps (i.knows hyps knows);
      same = λ hyps knows.
          next_same ts c.args.goal c.goals.at c.goals.left i.at i.within c.in-Settled.yes c.in-Some.goal c.next.new.left c.in-Some.ensures hyps (is_plain hyps (tree_at ts c.args.goal))
          (subst (IsVerdict ts hyps c.goals.at) c.in-Settled.is (s.verdict hyps (i.knows hyps knows))) (i.same hyps knows);
    }

pub follows-goals-preserved : goal.follows-goals-preserved
follows-goals-preserved t c =
    let ts = c.args.terms.now in
    let i = c.goals.invariant in
    let s = c.in_ok-found.ensures in
    let u = c.in_ok-yes-in-Under.ensures in
    record {
      at = next_up_to ts c.args.goal c.goals.at c.goals.left i.at i.within c.in_ok-yes-in-Under.yes c.in-Some-next.goal c.next-in-Under.new.left c.in-Some-next.ensures;
      within = next_left ts c.args.goal c.goals.at c.goals.left i.at i.within c.in_ok-yes-in-Under.yes c.in-Some-next.goal c.next-in-Under.new.left c.in-Some-next.ensures;
      sized = u.sized;
      knows = λ hyps knows. u.knows hyps (s.knows hyps (i.knows hyps knows));
      same = λ hyps knows.
          next_same ts c.args.goal c.goals.at c.goals.left i.at i.within c.in_ok-yes-in-Under.yes c.in-Some-next.goal c.next-in-Under.new.left c.in-Some-next.ensures hyps (is_plain hyps (tree_at ts c.args.goal))
          (u.plain hyps (s.knows hyps (i.knows hyps knows)) ∙ subst (IsVerdict ts hyps c.goals.at) c.in-Under.is (s.verdict hyps (i.knows hyps knows))) (i.same hyps knows);
    }
