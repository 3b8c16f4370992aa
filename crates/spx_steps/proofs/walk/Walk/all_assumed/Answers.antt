use Rattle.spx_arena.proofs.Ids.{id_within}
use Rattle.spx_steps.proofs.SharedSteps.{goes_not}
use Rattle.spx_steps.proofs.WalkLaws.{next_along}
use Rattle.spx_steps.proofs.walk.Walk.all_assumed.Goals as goal

pub loop-fact-init : goal.loop-fact-init
loop-fact-init c = goes_not c.requires.ready

pub assumed-requires-clause-within : goal.assumed-requires-clause-within
assumed-requires-clause-within c = id_within c.args.facts.now _ c.loop-fact.fact-index (record { 0 = 0 }) c.requires.within c.loop-fact-test.true

pub loop-fact-preserved : goal.loop-fact-preserved
loop-fact-preserved c = next_along c.args.facts.now c.loop-fact.fact-index (record { 0 = 0 }) c.loop-fact-test.true c.loop-fact.invariant c.in_ok-assumed.ensures
