use Rattle.std.proofs.Common.{arith, refl}
use Rattle.spx_steps.proofs.MemoLaws.{nothing_clear, nothing_next}
use Rattle.spx_steps.proofs.memo.Memo.forget.Goals as goal

pub returns-then-self : goal.returns-then-self
returns-then-self c = nothing_clear c.self.inside.turn 1 c.self.inside.entries c.clear.new.entries c.args.self.now (omega arith) c.self.view_is c.clear.ensures

pub returns : goal.returns
returns c = nothing_next c.self.inside.turn _ c.self.inside.entries c.args.self.now refl c.self.invariant c.self.view_is
