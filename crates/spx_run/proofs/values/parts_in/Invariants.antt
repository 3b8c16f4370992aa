use Rattle.std.proofs.Common.{◌≡◌, ◌≤◌, drop}
use Rattle.spx_run.specs.Mirror.{parts_after, parts_in}
use Rattle.spx_run.proofs.values.parts_in.Given as goal

abbrev pub invariant-loop-token : goal.invariant-loop-token
invariant-loop-token l = record {
  parts : parts_after l.source l.reading (drop l.token-index l.tokens) ≡ parts_in l.source l.tokens;
  depth : l.reading.depth ≤ l.token-index;
}
