use Rattle.std.proofs.Common.{rules, sym, ap, ◌∙◌, drop, ◌+◌}
use Rattle.spx_typing.proofs.ChoiceSteps.{choices_at}
use Rattle.std.specs.Prelude.{⊤}
use Rattle.spx_core.specs.Commands.{choices_in}
use Rattle.spx_core.specs.Judged.{Judged, ◌>>=◌, each}
use Rattle.spx_core.specs.Statements.{judged_choice}
use Rattle.spx_typing.specs.Choices.{alternatives_in}
use Rattle.spx_typing.proofs.choices.judge_all_choices.Goals as goal

pub returns-in_err-judge_choices : goal.returns-in_err-judge_choices
returns-in_err-judge_choices c = let e = choices_at c.args.alternatives.now c.loop-alternative.alternative-index c.alternative-item.result c.loop-alternative-test.true c.alternative-item.is c.args.of in let h = sym (c.loop-alternative.invariant ∙ e ∙ ap (λ (x : Judged ⊤). x >>= λ _. each (judged_choice c.args.of) (choices_in (alternatives_in (drop (c.loop-alternative.alternative-index + 1) c.args.alternatives.now)))) (sym c.in_err-judge_choices.ensures)) in search (rules, h)

pub loop-alternative-preserved : goal.loop-alternative-preserved
loop-alternative-preserved c = let e = choices_at c.args.alternatives.now c.loop-alternative.alternative-index c.alternative-item.result c.loop-alternative-test.true c.alternative-item.is c.args.of in c.loop-alternative.invariant ∙ e ∙ ap (λ (x : Judged ⊤). x >>= λ _. each (judged_choice c.args.of) (choices_in (alternatives_in (drop (c.loop-alternative.alternative-index + 1) c.args.alternatives.now)))) (sym c.in_ok-judge_choices.ensures)
