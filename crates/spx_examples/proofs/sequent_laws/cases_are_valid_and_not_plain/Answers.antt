use Rattle.spx_examples.proofs.Sequents.{cases_valid}
use Rattle.spx_examples.proofs.SequentsPlain.{cases_not_plain}
use Rattle.spx_examples.proofs.sequent_laws.cases_are_valid_and_not_plain.Goals as goal

pub returns-clause-valid : goal.returns-clause-valid
returns-clause-valid c = cases_valid

pub returns-clause-not_plain : goal.returns-clause-not_plain
returns-clause-not_plain c = cases_not_plain
