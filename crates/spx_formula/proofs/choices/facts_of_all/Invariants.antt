use Rattle.std.proofs.Common.{drop}
use Rattle.spx_formula.proofs.ChoiceIds.{FactsSoFar}
use Rattle.spx_formula.proofs.choices.facts_of_all.Given as goal

abbrev pub invariant-loop-alternative : goal.invariant-loop-alternative
invariant-loop-alternative l = FactsSoFar l.initial.terms l.terms l.value l.earlier l.all l.alternatives (drop l.alternative-index l.alternatives)
