use Rattle.spx_examples.proofs.Weakened.{others_kept}
use Rattle.spx_examples.proofs.weakening_laws.what_belongs_to_another_procedure_is_kept.Goals as goal

pub returns : goal.returns
returns c = others_kept
