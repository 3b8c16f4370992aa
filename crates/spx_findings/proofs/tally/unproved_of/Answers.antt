use Rattle.std.proofs.Common.{◌<◌, length, ap, ◌∙◌, arith, refl, false, List, get_or}
use Rattle.spx_arena.specs.declared.claims.SharedClaim.{SharedClaim}
use Rattle.spx_findings.proofs.LeftLaws.{left_more}
use Rattle.spx_findings.proofs.tally.unproved_of.Goals as goal

pub loop-at-preserved : goal.loop-at-preserved
loop-at-preserved c =
    let lent = c.as_slice-claim-items.ensures in
    let d = c.claim-item.result in
    let within : c.loop-at.at < length c.args.claims.now.list = omega (arith, ap length lent, c.loop-at-test.true) in
    left_more c.args.sub.now.name.name.text c.args.claims.now c.args.closed.now c.loop-at.at d _ false c.loop-at.found c.add_unproved.new.found within (c.claim-item.is ∙ ap (λ (xs : List SharedClaim). get_or xs c.loop-at.at d) lent) c.requires refl c.loop-at.invariant c.in_ok-add_unproved.ensures
