use Rattle.spx_tree.specs.declared.statement.AssertionKind.TheVariants as assertion
use Rattle.spx_examples.proofs.AssertedText.{spelled, grammatical, as_written, made}
use Rattle.spx_examples.proofs.assertion_laws.assertions_are_read.Goals as goal

pub returns-clause-spelled : goal.returns-clause-spelled
returns-clause-spelled c = spelled

pub returns-clause-grammatical : goal.returns-clause-grammatical
returns-clause-grammatical c = grammatical assertion.Check 14

pub returns-clause-as_written : goal.returns-clause-as_written
returns-clause-as_written c = as_written

pub returns-clause-made : goal.returns-clause-made
returns-clause-made c = made assertion.Check 14
