use Rattle.std.proofs.Common.{arith}
use Rattle.spx_typing.proofs.ChoiceSteps.{any_at}
use Rattle.spx_core.specs.Types.{overlap}
use Rattle.spx_typing.proofs.coverage.overlaps_among.Goals as goal

pub returns-then-overlaps : goal.returns-then-overlaps
returns-then-overlaps c = let e = any_at c.args.alternatives.now c.loop-alternative.alternative-index c.alternative-item.result c.loop-alternative-test.true c.alternative-item.is (overlap c.args.span) in grind (arith, e)
