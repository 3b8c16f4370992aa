use Rattle.spx_examples.proofs.CountedLoops.{outside, empty}
use Rattle.spx_examples.proofs.count_laws.bounds_are_checked_where_there_is_a_value.Goals as goal

pub returns-clause-outside : goal.returns-clause-outside
returns-clause-outside c = outside

pub returns-clause-empty : goal.returns-clause-empty
returns-clause-empty c = empty
