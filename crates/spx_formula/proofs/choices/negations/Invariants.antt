use Rattle.std.proofs.Common.{map, take}
use Rattle.spx_term.specs.declared.term.Term.TheVariants.{Prefix}
use Rattle.spx_term.specs.declared.term.TermPrefix.TheVariants.{Not}
use Rattle.spx_arena.specs.Claims.{trees_at}
use Rattle.spx_formula.specs.Added.{AddsAll}
use Rattle.spx_formula.proofs.choices.negations.Given as goal

abbrev pub invariant-loop-id : goal.invariant-loop-id
invariant-loop-id l = AddsAll l.initial.terms l.terms l.all (map (Prefix Not) (trees_at l.initial.terms (take l.id-index l.ids)))
