use Rattle.std.proofs.Common.{◌≡◌, ◌<◌, ◌++◌, ◌∷◌, [], List, ap, arith, get_or, length, subst, sym, ◌∙◌}
use Rattle.spx_arena.specs.declared.claims.SharedClaim.{SharedClaim}
use Rattle.spx_arena.specs.Claims.{claim_at}
use Rattle.spx_arena.proofs.Ids.{IsClaim, claim_within}
use Rattle.spx_vcg.proofs.Sizes.{numbered_taken}
use Rattle.spx_vcg.proofs.vcg.as_trees.Goals as goal

within : (c : goal.After-all-1) → c.loop-at.at < length c.args.claims.now.list
within c = omega (arith, ap length c.as_slice-claim-items.ensures, c.loop-at-test.true)

is_item : (c : goal.After-all-1) → c.claim-item.result ≡ get_or c.args.claims.now.list c.loop-at.at c.claim-item.result
is_item c = c.claim-item.is ∙ ap (λ (xs : List SharedClaim). get_or xs c.loop-at.at c.claim-item.result) c.as_slice-claim-items.ensures

here : (c : goal.After-all-1) → IsClaim (length c.args.claims.now.terms) (length c.args.claims.now.facts) c.claim-item.result
here c =
    let list = c.args.claims.now.list in
    subst (IsClaim (length c.args.claims.now.terms) (length c.args.claims.now.facts)) (sym (is_item c)) (claim_within list _ _ c.loop-at.at c.claim-item.result c.requires.claims (within c))

pub condition-requires-clause-facts : goal.condition-requires-clause-facts
condition-requires-clause-facts c = (here c).facts

pub condition-requires-clause-goals : goal.condition-requires-clause-goals
condition-requires-clause-goals c = (here c).goals

pub loop-at-preserved : goal.loop-at-preserved
loop-at-preserved c =
    let s = c.args.claims.now in
    let i = c.loop-at.at in
    let d = c.claim-item.result in
    let w : i < length s.list = omega (arith, ap length c.as_slice-claim-items.ensures, c.loop-at-test.true) in
    let is : d ≡ get_or s.list i d = c.claim-item.is ∙ ap (λ (xs : List SharedClaim). get_or xs i d) c.as_slice-claim-items.ensures in
    c.in_ok-push.ensures.ok
    ∙ (λ k. c.loop-at.invariant k ++ c.in_ok-condition.ensures k ∷ [])
    ∙ numbered_taken c.args.sub.now.name.name.text (claim_at s.terms s.facts) s.list i d w is
