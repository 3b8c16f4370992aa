use Rattle.std.proofs.Common.{arith}
use Rattle.spx_rows.proofs.Growth.{composes_start, composes_more, composes_skip, composes_all}
use Rattle.spx_rows.proofs.relation.Relation.compose_kept.Goals as goal
use Rattle.spx_rows.proofs.relation.Relation.compose_kept.Goals.{then-not-is_alone, else-not-is_alone}

pub loop-v-init : goal.loop-v-init
loop-v-init c = composes_start c.args.first.now c.args.second.now c.args.self.now _ c.union_with.ensures.size c.union_with.ensures.pairs

pub loop-v-preserved : goal.loop-v-preserved
loop-v-preserved c = elim c.if-not-is_alone.branch [
  | then-not-is_alone w ↦ rw w.self-is (composes_more c.args.first.now c.args.second.now c.args.self.now c.loop-v.self c.loop-v.v c.loop-v.invariant _ w.add_column.ensures.size w.add_column.ensures.pairs)
  | else-not-is_alone w ↦ rw w.self-is (composes_skip c.args.first.now c.args.second.now c.args.self.now c.loop-v.self c.loop-v.v c.loop-v.invariant (c.is_alone.ensures w.if-not-is_alone.false))
]

pub returns-clause-pairs : goal.returns-clause-pairs
returns-clause-pairs c = composes_all c.args.first.now c.args.second.now c.args.self.now c.loop-v.self c.loop-v.v c.loop-v.invariant (let s = c.loop-v.invariant.size in omega arith) c.requires.kept
