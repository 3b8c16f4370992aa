use Rattle.std.proofs.Common.{◌≡◌, drop}
use Rattle.std.specs.List.{list_any}
use Rattle.spx_arena.specs.Claims.{claims_at, claims_in}
use Rattle.spx_vcg.specs.Largeness.{is_large}
use Rattle.spx_vcg.proofs.limit.has_large_claim.Given as goal

abbrev pub invariant-loop-claim : goal.invariant-loop-claim
invariant-loop-claim l = list_any is_large (claims_in l.claims) ≡ list_any is_large (claims_at l.claims.terms l.claims.facts (drop l.claim-index l.claims.list))
