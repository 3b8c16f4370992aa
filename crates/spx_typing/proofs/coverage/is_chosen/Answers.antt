use Rattle.std.proofs.Common.{arith}
use Rattle.spx_typing.proofs.ChoiceSteps.{any_at}
use Rattle.spx_core.specs.declared.function.Span.{Span}
use Rattle.spx_core.specs.Types.{is_between}
use Rattle.spx_typing.proofs.coverage.is_chosen.Goals as goal

pub returns-then-is_chosen_by : goal.returns-then-is_chosen_by
returns-then-is_chosen_by c = let e = any_at c.args.alternatives.now c.loop-alternative.alternative-index c.alternative-item.result c.loop-alternative-test.true c.alternative-item.is (λ (s : Span). is_between s.first s.last c.args.n) in grind (arith, e)
