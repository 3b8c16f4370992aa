use Rattle.std.proofs.Common.{◌≡◌, take}
use Rattle.spx_arena.specs.Claims.{trees_at}
use Rattle.spx_vcg.proofs.vcg.trees.Given as goal

abbrev pub invariant-loop-id : goal.invariant-loop-id
invariant-loop-id l = l.trees ≡ trees_at l.terms (take l.id-index l.ids)
