use Rattle.std.proofs.Common.{◌≡◌, take}
use Rattle.spx_arena.specs.Claims.{claims_in}
use Rattle.spx_paths.specs.Conditions.{numbered}
use Rattle.spx_vcg.proofs.vcg.as_trees.Given as goal

abbrev pub invariant-loop-at : goal.invariant-loop-at
invariant-loop-at l = l.all ≡ numbered l.sub.name.name.text 1 (take l.at (claims_in l.claims))
