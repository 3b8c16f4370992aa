use Rattle.std.proofs.Common.{arith}
use Rattle.spx_typing.proofs.ChoiceSteps.{others_at}
use Rattle.spx_typing.proofs.coverage.has_others.Goals as goal

pub returns-then-is_for_others : goal.returns-then-is_for_others
returns-then-is_for_others c = let e = others_at c.args.alternatives.now c.loop-alternative.alternative-index c.alternative-item.result c.loop-alternative-test.true c.alternative-item.is in grind (arith, e)
