use Rattle.std.proofs.Common.{◌≡◌, take}
use Rattle.spx_passes.specs.Targets.{positions_in}
use Rattle.spx_passes.proofs.targets.target_positions.Given as goal

abbrev pub invariant-loop-number : goal.invariant-loop-number
invariant-loop-number l = l.found.items ≡ positions_in l.vars (take l.number-index l.number-items)
