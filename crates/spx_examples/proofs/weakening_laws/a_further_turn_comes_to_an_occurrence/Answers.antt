use Rattle.spx_examples.proofs.Weakened.{comes_once, comes_by_turns, comes_without_end}
use Rattle.spx_examples.proofs.weakening_laws.a_further_turn_comes_to_an_occurrence.Goals as goal

pub returns-clause-once : goal.returns-clause-once
returns-clause-once c = comes_once

pub returns-clause-by_turns : goal.returns-clause-by_turns
returns-clause-by_turns c = comes_by_turns

pub returns-clause-without_end : goal.returns-clause-without_end
returns-clause-without_end c = comes_without_end
