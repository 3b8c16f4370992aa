use Rattle.std.proofs.Common.{List, length}
use Rattle.spx_term.specs.declared.term.Term.{Term}
use Rattle.spx_simplify.specs.Tables.{Sized, AreChanges, LeadsBack}
use Rattle.spx_simplify.proofs.assumptions.take_back.Given as goal

abbrev pub invariant-back : goal.invariant-back
invariant-back l = record {
  sized : Sized (length l.terms) l.known;
  changes : AreChanges (length l.terms) l.changes;
  leads : (hyps : List Term) → LeadsBack l.terms hyps l.initial.known l.initial.changes → LeadsBack l.terms hyps l.known l.changes;
}

abbrev pub decreases-back : goal.decreases-back
decreases-back l = length l.changes
