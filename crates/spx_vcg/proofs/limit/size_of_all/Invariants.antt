use Rattle.std.proofs.Common.{◌≡◌, take}
use Rattle.spx_term.specs.Sizes.{sizes_of}
use Rattle.spx_arena.specs.Claims.{trees_at}
use Rattle.spx_arena.specs.Counts.{counted}
use Rattle.spx_vcg.proofs.limit.size_of_all.Given as goal

abbrev pub invariant-loop-id : goal.invariant-loop-id
invariant-loop-id l = l.size ≡ counted (sizes_of (trees_at l.terms (take l.id-index l.ids)))
