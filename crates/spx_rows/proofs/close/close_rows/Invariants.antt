use Rattle.std.proofs.Common.{◌≡◌, ◌≤◌, ◌+◌, ◌*◌, length}
use Rattle.spx_rows.proofs.Closure.{Closing}
use Rattle.spx_rows.proofs.close.close_rows.Given as goal

abbrev pub invariant-loop-k : goal.invariant-loop-k
invariant-loop-k g l = record {
  same : l.rows.relation.ghost_name ≡ l.fn.rows.relation.ghost_name;
  closing : Closing l.fn.rows.relation.now l.rows.relation.now l.k;
  cost : l.steps ≤ l.fn.steps + l.k * length l.fn.rows.relation.now;
}
