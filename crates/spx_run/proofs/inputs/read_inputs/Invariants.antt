use Rattle.std.proofs.Common.{◌+◌, ◌-◌, ◌≤◌, drop, length}
use Rattle.spx_run.proofs.PassLaws.{Passes}
use Rattle.spx_run.proofs.inputs.read_inputs.Given as goal

abbrev pub invariant-loop-at : goal.invariant-loop-at
invariant-loop-at l = record {
  passes : Passes l.source (drop l.at l.source) l.number l.lines;
  numbered : l.number ≤ l.at + 1;
  within : l.at ≤ length l.source + 1;
}

abbrev pub decreases-loop-at : goal.decreases-loop-at
decreases-loop-at l = length l.source - l.at
