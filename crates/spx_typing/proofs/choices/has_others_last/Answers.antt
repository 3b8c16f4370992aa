use Rattle.std.proofs.Common.{rules, sym, ◌∙◌}
use Rattle.spx_typing.proofs.ChoiceSteps.{others_early}
use Rattle.spx_typing.proofs.choices.has_others_last.Goals as goal

pub returns-then-index-alternatives : goal.returns-then-index-alternatives
returns-then-index-alternatives c = sym (c.loop-index.invariant ∙ others_early c.args.alternatives.now c.loop-index.index c.index-alternatives-index.result c.loop-index-test.true c.index-alternatives-index.is (search rules) c.if-index-alternatives.true)
