use Rattle.spx_examples.proofs.Sequents.{chain_valid}
use Rattle.spx_examples.proofs.SequentsPlain.{chain_not_plain}
use Rattle.spx_examples.proofs.sequent_laws.a_chain_is_valid_and_not_plain.Goals as goal

pub returns-clause-valid : goal.returns-clause-valid
returns-clause-valid c = chain_valid

pub returns-clause-not_plain : goal.returns-clause-not_plain
returns-clause-not_plain c = chain_not_plain
