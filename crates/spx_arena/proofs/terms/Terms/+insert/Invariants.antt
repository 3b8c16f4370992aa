use Rattle.std.proofs.Common.{◌+◌, suc}
use Rattle.spx_arena.proofs.terms.Terms.+insert.Given as goal

abbrev pub decreases-insert : goal.decreases-insert
decreases-insert l = l.room + l.room

abbrev pub decreases-insert_parts : goal.decreases-insert_parts
decreases-insert_parts l = suc (l.room + l.room)
