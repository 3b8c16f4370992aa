use Rattle.std.proofs.Common.{ℕ, ◌<◌, List, length}
use Rattle.spx_term.specs.declared.term.Term.{Term}
use Rattle.spx_simplify.specs.Folds.{place_of}
use Rattle.spx_simplify.specs.Tables.{IsMade, Knows, Keeps}
use Rattle.spx_simplify.proofs.known.Known.fill.Given as goal

abbrev pub invariant-loop-at : goal.invariant-loop-at
invariant-loop-at l = record {
  keeps : Keeps (length l.terms) l.initial.self l.self;
  knows : (hyps : List Term) → Knows l.terms hyps l.initial.self → Knows l.terms hyps l.self;
  made : (i : ℕ) → i < l.at → IsMade l.self.made.items (place_of i);
}
