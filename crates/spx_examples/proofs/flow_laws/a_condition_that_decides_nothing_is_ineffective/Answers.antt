use Rattle.spx_examples.proofs.Findings.{undecided}
use Rattle.spx_examples.proofs.flow_laws.a_condition_that_decides_nothing_is_ineffective.Goals as goal

pub returns : goal.returns
returns c = undecided
