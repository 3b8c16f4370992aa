use Rattle.spx_rows.proofs.Growth.{Unites}
use Rattle.spx_rows.proofs.relation.Relation.union_of.Given as goal

abbrev pub invariant-loop-x : goal.invariant-loop-x
invariant-loop-x l = Unites l.from l.self l.row l.x-index
