use Rattle.std.proofs.Common.{refl, sym, ◌∙◌}
use Rattle.spx_arena.specs.Claims.{claims_in}
use Rattle.spx_vcg.proofs.Sizes.{claims_are, large_is}
use Rattle.spx_vcg.proofs.vcg.conditions_within.Goals as goal

pub returns-then-branch-clause-refused : goal.returns-then-branch-clause-refused
returns-then-branch-clause-refused c =
    let p = c.args.program.now in
    let claims = claims_in c.in_ok-claims.claims in
    let are = claims_are p c.args.sub.now c.in-Ok.all claims c.in-Ok.ensures.exact c.in_ok-claims.ensures.claims in
    (refl, c.in-Ok.ensures.few, sym (large_is p c.args.sub.now claims are) ∙ sym c.in_ok-has_large_claim.ensures ∙ c.if-branch.true)

pub returns-clause-claims : goal.returns-clause-claims
returns-clause-claims c = claims_are c.args.program.now c.args.sub.now c.in-Ok.all (claims_in c.in_ok-claims.claims) c.in-Ok.ensures.exact c.in_ok-claims.ensures.claims

pub returns-clause-few : goal.returns-clause-few
returns-clause-few c =
    let p = c.args.program.now in
    let claims = claims_in c.in_ok-claims.claims in
    let are = claims_are p c.args.sub.now c.in-Ok.all claims c.in-Ok.ensures.exact c.in_ok-claims.ensures.claims in
    (c.in-Ok.ensures.few, sym (large_is p c.args.sub.now claims are) ∙ sym c.in_ok-has_large_claim.ensures ∙ c.if-branch.false)
