use Rattle.spx_examples.proofs.Weakened.{written_is_held}
use Rattle.spx_examples.proofs.weakening_laws.what_is_written_is_not_too_large.Goals as goal

pub returns : goal.returns
returns c = written_is_held
