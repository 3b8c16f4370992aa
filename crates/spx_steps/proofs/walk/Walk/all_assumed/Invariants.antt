use Rattle.std.proofs.Common.{take}
use Rattle.spx_term.specs.Steps.{assume_all}
use Rattle.spx_arena.specs.Claims.{trees_at}
use Rattle.spx_steps.specs.Walks.{Goes}
use Rattle.spx_steps.proofs.walk.Walk.all_assumed.Given as goal

abbrev pub invariant-loop-fact : goal.invariant-loop-fact
invariant-loop-fact l = Goes l.names l.initial.self l.self (assume_all (trees_at l.names (take l.fact-index l.facts)))
