use Rattle.std.proofs.Common.{◌≡◌, drop}
use Rattle.spx_core.specs.Commands.{has_others}
use Rattle.spx_typing.specs.Choices.{alternatives_in}
use Rattle.spx_typing.proofs.coverage.has_others.Given as goal

abbrev pub invariant-loop-alternative : goal.invariant-loop-alternative
invariant-loop-alternative l = has_others (alternatives_in l.alternatives) ≡ has_others (alternatives_in (drop l.alternative-index l.alternatives))
