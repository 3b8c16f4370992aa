use Rattle.std.proofs.Common.{◌≡◌, drop, map}
use Rattle.std.specs.List.{list_all}
use Rattle.spx_core.specs.Types.{cover}
use Rattle.spx_typing.specs.Choices.{is_kept, next_of, spans_in}
use Rattle.spx_typing.proofs.coverage.cover.Given as goal

abbrev pub invariant-loop-alternative : goal.invariant-loop-alternative
invariant-loop-alternative l = cover l.values.first l.values.last (spans_in l.alternatives) ≡ list_all (is_kept l.values (spans_in l.alternatives)) (map next_of (spans_in (drop l.alternative-index l.alternatives)))
