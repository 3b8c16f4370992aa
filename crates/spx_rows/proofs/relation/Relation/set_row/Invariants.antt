use Rattle.spx_rows.proofs.Growth.{Gathered}
use Rattle.spx_rows.proofs.relation.Relation.set_row.Given as goal

abbrev pub invariant-loop-x : goal.invariant-loop-x
invariant-loop-x l = Gathered l.from l.to l.fn.self l.self l.x-index
