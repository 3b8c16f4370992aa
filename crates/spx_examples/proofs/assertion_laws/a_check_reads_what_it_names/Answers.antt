use Rattle.spx_examples.proofs.Findings.{unset_in_check}
use Rattle.spx_examples.proofs.assertion_laws.a_check_reads_what_it_names.Goals as goal

pub returns : goal.returns
returns c = unset_in_check
