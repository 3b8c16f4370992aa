use Rattle.std.proofs.Common.{List, length, take}
use Rattle.spx_term.specs.declared.term.Term.{Term}
use Rattle.spx_arena.specs.Claims.{trees_at}
use Rattle.spx_simplify.specs.Tables.{Sized, Knows, AreChanges, Assumed}
use Rattle.spx_simplify.proofs.assumptions.assume.Given as goal

abbrev pub invariant-loop-fact : goal.invariant-loop-fact
invariant-loop-fact l = record {
  sized : Sized (length l.terms) l.known;
  changes : AreChanges (length l.terms) l.changes;
  assumed : (hyps : List Term) → Knows l.terms hyps l.initial.known → Assumed l.terms hyps (trees_at l.terms (take l.fact-index l.facts)) l.known l.changes;
}
