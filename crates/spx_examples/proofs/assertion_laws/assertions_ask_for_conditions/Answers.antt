use Rattle.spx_examples.proofs.AssertionConditions.{promised_are, checking_are, both_are}
use Rattle.spx_examples.proofs.assertion_laws.assertions_ask_for_conditions.Goals as goal

pub returns-clause-post : goal.returns-clause-post
returns-clause-post c = promised_are

pub returns-clause-check : goal.returns-clause-check
returns-clause-check c = checking_are

pub returns-clause-both : goal.returns-clause-both
returns-clause-both c = both_are
