use Rattle.std.proofs.Common.{◌≡◌, drop}
use Rattle.spx_core.specs.Types.{is_chosen}
use Rattle.spx_typing.specs.Choices.{spans_in}
use Rattle.spx_typing.proofs.coverage.is_chosen.Given as goal

abbrev pub invariant-loop-alternative : goal.invariant-loop-alternative
invariant-loop-alternative l = is_chosen l.n (spans_in l.alternatives) ≡ is_chosen l.n (spans_in (drop l.alternative-index l.alternatives))
