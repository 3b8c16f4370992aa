use Rattle.std.proofs.Common.{◌≡◌, drop}
use Rattle.spx_core.specs.Commands.{choices_in}
use Rattle.spx_core.specs.Judged.{each}
use Rattle.spx_core.specs.Statements.{judged_choice}
use Rattle.spx_typing.specs.Choices.{alternatives_in}
use Rattle.spx_typing.proofs.choices.judge_all_choices.Given as goal

abbrev pub invariant-loop-alternative : goal.invariant-loop-alternative
invariant-loop-alternative l = each (judged_choice l.of) (choices_in (alternatives_in l.alternatives)) ≡ each (judged_choice l.of) (choices_in (alternatives_in (drop l.alternative-index l.alternatives)))
