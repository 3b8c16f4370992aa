use Rattle.std.proofs.Common.{◌≡◌, ◌≤◌, ◌+◌, drop}
use Rattle.spx_steps.specs.Counts.{capped, paths_from}
use Rattle.spx_steps.proofs.count.total_of.Given as goal

abbrev pub invariant-loop-root : goal.invariant-loop-root
invariant-loop-root l = record {
  least : l.total ≤ l.most + 1;
  total : capped l.most (l.total + paths_from l.steps (drop l.root-index l.roots)) ≡ capped l.most (paths_from l.steps l.roots);
}
