use Rattle.spx_examples.proofs.Sequents.{all_valid}
use Rattle.spx_examples.proofs.SequentsPlain.{contradictory_not_plain}
use Rattle.spx_examples.proofs.sequent_laws.contradictory_hypotheses_prove_all.Goals as goal

pub returns-clause-valid : goal.returns-clause-valid
returns-clause-valid c = all_valid

pub returns-clause-not_plain : goal.returns-clause-not_plain
returns-clause-not_plain c = contradictory_not_plain
