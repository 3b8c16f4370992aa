use Rattle.spx_examples.proofs.BadRuns.{no_turn, loop_starts, turn_fails, loop_fails}
use Rattle.spx_examples.proofs.bad_laws.a_turn_can_be_bad.Goals as goal

pub returns-clause-at_0 : goal.returns-clause-at_0
returns-clause-at_0 c = no_turn

pub returns-clause-start : goal.returns-clause-start
returns-clause-start c = loop_starts

pub returns-clause-bad : goal.returns-clause-bad
returns-clause-bad c = turn_fails

pub returns-clause-fails : goal.returns-clause-fails
returns-clause-fails c = loop_fails
