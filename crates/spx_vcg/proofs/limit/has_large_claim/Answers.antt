use Rattle.std.proofs.Common.{◌<◌, List, ap, arith, get_or, length, subst, sym, ◌∙◌}
use Rattle.spx_arena.specs.declared.claims.SharedClaim.{SharedClaim}
use Rattle.spx_arena.proofs.Ids.{IsClaim, claim_within}
use Rattle.spx_vcg.proofs.limit.has_large_claim.Goals as goal

here : (c : goal.After-as_slice) → IsClaim (length c.args.claims.now.terms) (length c.args.claims.now.facts) c.claim-item.result
here c =
    let list = c.args.claims.now.list in
    let d = c.claim-item.result in
    let i = c.loop-claim.claim-index in
    let items = c.as_slice-claim-items.ensures in
    let within : i < length list = omega (arith, ap length items, c.loop-claim-test.true) in
    subst (IsClaim (length c.args.claims.now.terms) (length c.args.claims.now.facts)) (sym (c.claim-item.is ∙ ap (λ (xs : List SharedClaim). get_or xs i d) items)) (claim_within list _ _ i d c.requires.claims within)

pub is_large-requires-clause-facts : goal.is_large-requires-clause-facts
is_large-requires-clause-facts c = (here c).facts

pub is_large-requires-clause-goals : goal.is_large-requires-clause-goals
is_large-requires-clause-goals c = (here c).goals
