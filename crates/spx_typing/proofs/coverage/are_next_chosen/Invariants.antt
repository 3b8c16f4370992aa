use Rattle.std.proofs.Common.{◌≡◌, drop, map}
use Rattle.std.specs.List.{list_all}
use Rattle.spx_core.specs.Commands.{spans_of}
use Rattle.spx_typing.specs.Choices.{is_kept, next_of, spans_in}
use Rattle.spx_typing.proofs.coverage.are_next_chosen.Given as goal

abbrev pub invariant-loop-choice : goal.invariant-loop-choice
invariant-loop-choice l = list_all (is_kept l.values (spans_in l.alternatives)) (map next_of (spans_of l.choices)) ≡ list_all (is_kept l.values (spans_in l.alternatives)) (map next_of (spans_of (drop l.choice-index l.choices)))
