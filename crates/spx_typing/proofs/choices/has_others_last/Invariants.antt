use Rattle.std.proofs.Common.{◌≡◌, drop}
use Rattle.spx_core.specs.Commands.{has_others_last}
use Rattle.spx_typing.specs.Choices.{alternatives_in}
use Rattle.spx_typing.proofs.choices.has_others_last.Given as goal

abbrev pub invariant-loop-index : goal.invariant-loop-index
invariant-loop-index l = has_others_last (alternatives_in l.alternatives) ≡ has_others_last (alternatives_in (drop l.index l.alternatives))
