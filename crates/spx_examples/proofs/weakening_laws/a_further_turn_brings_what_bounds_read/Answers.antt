use Rattle.spx_examples.proofs.Weakened.{renewed_once, comes_by_count}
use Rattle.spx_examples.proofs.weakening_laws.a_further_turn_brings_what_bounds_read.Goals as goal

pub returns-clause-once : goal.returns-clause-once
returns-clause-once c = renewed_once

pub returns-clause-by_turns : goal.returns-clause-by_turns
returns-clause-by_turns c = comes_by_count
