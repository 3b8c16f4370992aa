use Rattle.spx_examples.proofs.AssertionText.{line_is_spelled, tilde_is_stopped}
use Rattle.spx_examples.proofs.assertion_laws.assertions_are_spelled_in_annotations.Goals as goal

pub returns-clause-both : goal.returns-clause-both
returns-clause-both c = line_is_spelled

pub returns-clause-tilde : goal.returns-clause-tilde
returns-clause-tilde c = tilde_is_stopped
