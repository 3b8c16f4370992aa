use Rattle.spx_core.proofs.TypeValues.{all_are_made}
use Rattle.spx_core.proofs.laws.types_are_made.Goals as goal

pub returns : goal.returns
returns c = all_are_made
