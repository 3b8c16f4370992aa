use Rattle.std.proofs.Common.{◌≡◌, drop}
use Rattle.std.specs.List.{list_any}
use Rattle.spx_core.specs.Commands.{spans_of}
use Rattle.spx_core.specs.Types.{overlap}
use Rattle.spx_typing.proofs.coverage.overlaps.Given as goal

abbrev pub invariant-loop-choice : goal.invariant-loop-choice
invariant-loop-choice l = list_any (overlap l.span) (spans_of l.choices) ≡ list_any (overlap l.span) (spans_of (drop l.choice-index l.choices))
