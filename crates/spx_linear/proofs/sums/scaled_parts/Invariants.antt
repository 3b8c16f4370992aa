use Rattle.std.proofs.Common.{◌≡◌, drop}
use Rattle.spx_linear.specs.Forms.{scaled_parts}
use Rattle.spx_linear.proofs.Multiples.{after}
use Rattle.spx_linear.proofs.sums.scaled_parts.Given as goal

abbrev pub invariant-loop-part : goal.invariant-loop-part
invariant-loop-part l = scaled_parts l.by l.parts ≡ after l.multiples (scaled_parts l.by (drop l.part-index l.parts))
