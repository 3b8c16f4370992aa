use Rattle.std.proofs.Common.{length}
use Rattle.spx_rows.specs.Relations.{Has, Holds}
use Rattle.spx_rows.proofs.Growth.{collected_word, collected_skip}
use Rattle.spx_rows.proofs.relation.Relation.union_through.Goals as goal
use Rattle.spx_rows.proofs.relation.Relation.union_through.Goals.{then-not-is_word_empty, else-not-is_word_empty}

pub loop-at-preserved : goal.loop-at-preserved
loop-at-preserved c = elim c.if-not-is_word_empty.branch [
  | then-not-is_word_empty w ↦ rw w.row-is (collected_word (length c.args.self.now) c.loop-at.at c.loop-at.row (Has c.args.from.now) (Holds c.args.self.now) c.loop-at.invariant
      _ w.add_rows_of_word.ensures.size w.add_rows_of_word.ensures.numbers)
  | else-not-is_word_empty w ↦ rw w.row-is (collected_skip (length c.args.self.now) c.loop-at.at c.loop-at.row (Has c.args.from.now) (Holds c.args.self.now) c.loop-at.invariant
      (c.is_word_empty.ensures w.if-not-is_word_empty.false))
]
