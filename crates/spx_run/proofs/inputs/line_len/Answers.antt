use Rattle.spx_run.proofs.LineLaws.{len_at, len_of_all}
use Rattle.spx_run.proofs.inputs.line_len.Goals as goal

pub returns-in-Some-clause-value : goal.returns-in-Some-clause-value
returns-in-Some-clause-value c = len_at c.args.bytes.now c.in-Some.at c.in-Some.ensures.value

pub returns-in-None-clause-value : goal.returns-in-None-clause-value
returns-in-None-clause-value c = len_of_all c.args.bytes.now c.in-None.ensures.value
