use Rattle.spx_rows.proofs.SingleRows.{Apart}
use Rattle.spx_rows.proofs.row.Row.meets.Given as goal

abbrev pub invariant-loop-k : goal.invariant-loop-k
invariant-loop-k l = Apart l.self l.other l.k
