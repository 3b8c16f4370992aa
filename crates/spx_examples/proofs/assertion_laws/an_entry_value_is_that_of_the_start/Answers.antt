use Rattle.spx_examples.proofs.Assertions.{meant_entry, meant_x}
use Rattle.spx_examples.proofs.assertion_laws.an_entry_value_is_that_of_the_start.Goals as goal

pub returns-clause-entry : goal.returns-clause-entry
returns-clause-entry c = meant_entry

pub returns-clause-present : goal.returns-clause-present
returns-clause-present c = meant_x
