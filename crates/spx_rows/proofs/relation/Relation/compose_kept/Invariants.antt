use Rattle.spx_rows.proofs.Growth.{Composes}
use Rattle.spx_rows.proofs.relation.Relation.compose_kept.Given as goal

abbrev pub invariant-loop-v : goal.invariant-loop-v
invariant-loop-v l = Composes l.first l.second l.fn.self l.self l.v
