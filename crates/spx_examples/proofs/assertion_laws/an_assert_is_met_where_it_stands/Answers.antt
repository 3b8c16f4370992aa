use Rattle.spx_examples.proofs.Assertions.{next_asserted, kept_asserted}
use Rattle.spx_examples.proofs.assertion_laws.an_assert_is_met_where_it_stands.Goals as goal

pub returns-clause-holds : goal.returns-clause-holds
returns-clause-holds c = next_asserted

pub returns-clause-fails : goal.returns-clause-fails
returns-clause-fails c = kept_asserted
