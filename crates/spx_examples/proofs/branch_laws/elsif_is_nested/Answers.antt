use Rattle.spx_examples.proofs.Statements.{elsif_is}
use Rattle.spx_examples.proofs.branch_laws.elsif_is_nested.Goals as goal

pub returns : goal.returns
returns c = elsif_is
