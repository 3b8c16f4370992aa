use Rattle.spx_examples.proofs.Weakened.{from_below_zero, ends_below_zero, from_first, ends_after_first}
use Rattle.spx_examples.proofs.weakening_laws.a_call_may_start_below_zero.Goals as goal

pub returns-clause-start : goal.returns-clause-start
returns-clause-start c = from_below_zero

pub returns-clause-ended : goal.returns-clause-ended
returns-clause-ended c = ends_below_zero

pub returns-clause-first : goal.returns-clause-first
returns-clause-first c = from_first

pub returns-clause-after_first : goal.returns-clause-after_first
returns-clause-after_first c = ends_after_first
