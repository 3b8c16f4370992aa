use Rattle.std.proofs.Common.{◌≡◌, drop}
use Rattle.spx_core.specs.Judged.{each}
use Rattle.spx_core.specs.Statements.{judged_choice}
use Rattle.spx_typing.proofs.choices.each_choice.Given as goal

abbrev pub invariant-loop-choice : goal.invariant-loop-choice
invariant-loop-choice l = each (judged_choice l.of) l.choices ≡ each (judged_choice l.of) (drop l.choice-index l.choices)
