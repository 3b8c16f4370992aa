use Rattle.spx_examples.proofs.Findings.{unset, set_clean}
use Rattle.spx_examples.proofs.flow_laws.a_local_is_read_before_it_is_set.Goals as goal

pub returns-clause-unset : goal.returns-clause-unset
returns-clause-unset c = unset

pub returns-clause-set : goal.returns-clause-set
returns-clause-set c = set_clean
