use Rattle.std.proofs.Common.{take}
use Rattle.spx_simplify.specs.Questions.{Asked}
use Rattle.spx_simplify.proofs.simplify.questions_of.Given as goal

abbrev pub invariant-loop-claim : goal.invariant-loop-claim
invariant-loop-claim l = Asked l.initial.terms l.terms (take l.claim-index l.list) l.questions
