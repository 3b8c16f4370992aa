use Rattle.std.proofs.Common.{arith}
use Rattle.spx_run.specs.Results.{value_text}
use Rattle.spx_run.proofs.TextLaws.{all_written}
use Rattle.spx_run.proofs.printing.+put_value.Goals as goal

pub put_list-returns : goal.put_list-returns
put_list-returns t c = all_written value_text c.args.values.now c.loop-value.value-index c.loop-value.mark.now c.args.out.now.items c.loop-value.out.items (omega arith) c.loop-value.invariant
