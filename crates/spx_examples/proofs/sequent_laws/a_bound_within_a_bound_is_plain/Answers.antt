use Rattle.spx_examples.proofs.Sequents.{bound_valid}
use Rattle.spx_examples.proofs.SequentsPlain.{bound_plain}
use Rattle.spx_examples.proofs.sequent_laws.a_bound_within_a_bound_is_plain.Goals as goal

pub returns-clause-plain : goal.returns-clause-plain
returns-clause-plain c = bound_plain

pub returns-clause-valid : goal.returns-clause-valid
returns-clause-valid c = bound_valid
