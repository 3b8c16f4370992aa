use Rattle.std.proofs.Common.{◌≡◌, drop}
use Rattle.spx_core.specs.Commands.{spans_of}
use Rattle.spx_core.specs.Types.{is_chosen}
use Rattle.spx_typing.proofs.coverage.is_chosen_by.Given as goal

abbrev pub invariant-loop-choice : goal.invariant-loop-choice
invariant-loop-choice l = is_chosen l.n (spans_of l.choices) ≡ is_chosen l.n (spans_of (drop l.choice-index l.choices))
