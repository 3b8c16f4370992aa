use Rattle.std.proofs.Common.{◌≡◌, drop, ◌++◌}
use Rattle.spx_core.specs.Commands.{spans_of}
use Rattle.spx_core.specs.Types.{are_apart}
use Rattle.spx_typing.specs.Choices.{spans_in}
use Rattle.spx_typing.proofs.coverage.are_apart_before.Given as goal

abbrev pub invariant-loop-index : goal.invariant-loop-index
invariant-loop-index l = are_apart (spans_of l.choices ++ spans_in l.later) ≡ are_apart (spans_of (drop l.index l.choices) ++ spans_in l.later)
