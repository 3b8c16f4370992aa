use Rattle.std.proofs.Common.{take}
use Rattle.spx_simplify.specs.Questions.{HasFacts}
use Rattle.spx_simplify.proofs.simplify.linked.Given as goal

abbrev pub invariant-loop-hyp : goal.invariant-loop-hyp
invariant-loop-hyp l = HasFacts l.terms l.lists l.facts (take l.hyp-index l.hyps)
