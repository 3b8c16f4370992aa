use Rattle.std.proofs.Common.{◌≡◌, ◌≤◌, ◌+◌}
use Rattle.spx_rows.specs.Relations.{Through}
use Rattle.spx_rows.proofs.close.add_through.Given as goal

abbrev pub invariant-loop-u : goal.invariant-loop-u
invariant-loop-u g l = record { same : l.rows.relation.ghost_name ≡ l.fn.rows.relation.ghost_name; through : Through l.fn.rows.relation.now l.rows.relation.now l.k l.u; cost : l.steps ≤ l.fn.steps + l.u }
