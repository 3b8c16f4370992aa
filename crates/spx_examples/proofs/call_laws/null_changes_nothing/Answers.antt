use Rattle.spx_examples.proofs.Locals.{null_keeps}
use Rattle.spx_examples.proofs.call_laws.null_changes_nothing.Goals as goal

pub returns : goal.returns
returns c = null_keeps
