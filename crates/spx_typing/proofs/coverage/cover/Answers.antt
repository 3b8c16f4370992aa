use Rattle.std.proofs.Common.{arith}
use Rattle.spx_typing.proofs.ChoiceSteps.{kept_at}
use Rattle.spx_typing.specs.Choices.{is_kept, spans_in}
use Rattle.spx_typing.proofs.coverage.cover.Goals as goal

pub returns-then-not-are_next_chosen : goal.returns-then-not-are_next_chosen
returns-then-not-are_next_chosen c = let e = kept_at c.args.alternatives.now c.loop-alternative.alternative-index c.alternative-item.result c.loop-alternative-test.true c.alternative-item.is (is_kept c.args.values (spans_in c.args.alternatives.now)) in grind (arith, e)
