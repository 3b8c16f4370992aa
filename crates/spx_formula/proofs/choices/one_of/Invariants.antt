use Rattle.std.proofs.Common.{drop}
use Rattle.spx_formula.proofs.ChoiceIds.{IsSoFar}
use Rattle.spx_formula.proofs.choices.one_of.Given as goal

abbrev pub invariant-loop-choice : goal.invariant-loop-choice
invariant-loop-choice l = IsSoFar l.initial.terms l.terms l.value l.fn.so_far l.all l.choices (drop l.choice-index l.choices)
