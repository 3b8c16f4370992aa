use Rattle.std.proofs.Common.{◌≡◌, drop}
use Rattle.std.specs.List.{list_any}
use Rattle.spx_core.specs.Types.{overlap}
use Rattle.spx_typing.specs.Choices.{spans_in}
use Rattle.spx_typing.proofs.coverage.overlaps_among.Given as goal

abbrev pub invariant-loop-alternative : goal.invariant-loop-alternative
invariant-loop-alternative l = list_any (overlap l.span) (spans_in l.alternatives) ≡ list_any (overlap l.span) (spans_in (drop l.alternative-index l.alternatives))
