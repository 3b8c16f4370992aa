use Rattle.spx_examples.proofs.Variants.{precondition_before_export}
use Rattle.spx_examples.proofs.run_laws.a_precondition_is_met_first.Goals as goal

pub returns : goal.returns
returns c = precondition_before_export
