use Rattle.std.proofs.Common.{◌≡◌, drop}
use Rattle.spx_core.specs.Types.{are_apart}
use Rattle.spx_typing.specs.Choices.{spans_in}
use Rattle.spx_typing.proofs.coverage.are_apart.Given as goal

abbrev pub invariant-loop-index : goal.invariant-loop-index
invariant-loop-index l = are_apart (spans_in l.alternatives) ≡ are_apart (spans_in (drop l.index l.alternatives))
