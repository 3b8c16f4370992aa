use Rattle.spx_examples.proofs.CountedFlows.{occurs, occurs_not}
use Rattle.spx_examples.proofs.count_laws.written_bounds_are_an_occurrence.Goals as goal

pub returns-clause-with_bounds : goal.returns-clause-with_bounds
returns-clause-with_bounds c = occurs

pub returns-clause-without : goal.returns-clause-without
returns-clause-without c = occurs_not
