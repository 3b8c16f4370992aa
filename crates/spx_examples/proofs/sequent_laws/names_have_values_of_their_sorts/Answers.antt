use Rattle.spx_examples.proofs.Sequents.{orders_valid}
use Rattle.spx_examples.proofs.sequent_laws.names_have_values_of_their_sorts.Goals as goal

pub returns : goal.returns
returns c = orders_valid
