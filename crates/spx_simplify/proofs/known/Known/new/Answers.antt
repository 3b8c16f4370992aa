use Rattle.spx_simplify.proofs.Tables.{knows_none}
use Rattle.spx_simplify.proofs.known.Known.new.Goals as goal

pub returns-clause-knows : goal.returns-clause-knows
returns-clause-knows c = λ trees. knows_none trees _ c.loop-at.invariant.none c.loop-at.invariant.free c.loop-at.invariant.unsaid c.new.ensures.items
