use Rattle.std.proofs.Common.{ap, sym, ◌∙◌, subst, length, take, ◌+◌}
use Rattle.spx_term.specs.Goals.{goal_of}
use Rattle.spx_arena.specs.declared.claims.SharedClaim.{SharedClaim}
use Rattle.spx_arena.specs.Claims.{AreIds, trees_at}
use Rattle.spx_arena.specs.Sharing.{Adds}
use Rattle.spx_simplify.specs.Questions.{Asked}
use Rattle.spx_arena.proofs.Ids.{wider_ids}
use Rattle.spx_simplify.proofs.Claims.{goals_at, asked_more}
use Rattle.spx_simplify.proofs.simplify.questions_of.Goals as goal

pub conjunction-requires : goal.conjunction-requires
conjunction-requires c =
    let ids = subst (λ (d : SharedClaim). AreIds (length c.args.terms.now) d.goals) (sym c.claim-item.is) (goals_at c.args.list.now (length c.args.terms.now) c.loop-claim.claim-index c.claim-item.result c.requires c.loop-claim-test.true) in
    subst (AreIds (length c.loop-claim.terms)) (sym c.as_slice.ensures) (wider_ids c.claim-item.result.goals c.loop-claim.invariant.grown.more ids)

pub loop-claim-preserved : goal.loop-claim-preserved
loop-claim-preserved c =
    let d = c.claim-item.result in
    let old = c.loop-claim.terms in
    let new = c.conjunction.new.terms in
    let id = c.in_ok-goal.goal in
    subst (λ qs. Asked c.args.terms.now new (take (c.loop-claim.claim-index + 1) c.args.list.now) qs) (sym c.in_ok-push.ensures.ok)
    (asked_more c.args.terms.now old new c.args.list.now c.loop-claim.questions c.loop-claim.claim-index d (record { facts = d.facts; goal = id }) c.requires c.loop-claim-test.true c.loop-claim.invariant
    (ap (λ (x : SharedClaim). x.facts) c.claim-item.is)
    (subst (λ ids. Adds old new id (goal_of (trees_at old ids))) (c.as_slice.ensures ∙ ap (λ (x : SharedClaim). x.goals) c.claim-item.is) c.in_ok-goal.ensures.added))
