use Rattle.std.proofs.Common.{refl, arith}
use Rattle.spx_rows.proofs.BitRows.{changed_more}
use Rattle.spx_rows.proofs.words.clear_words.Goals as goal

pub loop-j-preserved : goal.loop-j-preserved
loop-j-preserved c = changed_more _ _ c.args.to c.loop-j.j 0 (λ j old. 0) c.loop-j.invariant (omega arith) refl
