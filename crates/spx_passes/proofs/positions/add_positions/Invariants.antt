use Rattle.std.proofs.Common.{◌≡◌, ◌++◌, take}
use Rattle.spx_passes.specs.Positions.{positions_at}
use Rattle.spx_passes.proofs.positions.add_positions.Given as goal

abbrev pub invariant-loop-k : goal.invariant-loop-k
invariant-loop-k l = l.found.items ≡ l.initial.found.items ++ positions_at l.vars (take l.k l.reads)
