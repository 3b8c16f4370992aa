use Rattle.spx_examples.proofs.Variants.{out_is_unset, out_is_left_unset}
use Rattle.spx_examples.proofs.call_laws.an_out_formal_starts_unset.Goals as goal

pub returns-clause-read : goal.returns-clause-read
returns-clause-read c = out_is_unset

pub returns-clause-left : goal.returns-clause-left
returns-clause-left c = out_is_left_unset
