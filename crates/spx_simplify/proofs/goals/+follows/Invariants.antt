use Rattle.std.proofs.Common.{◌≡◌, ◌+◌, ◌*◌, ◌≤◌, List, length}
use Rattle.spx_term.specs.declared.term.Term.{Term}
use Rattle.spx_term.specs.Plain.{is_plain}
use Rattle.spx_arena.specs.Sharing.{tree_at}
use Rattle.spx_simplify.specs.Tables.{Sized, Knows}
use Rattle.spx_simplify.specs.Verdicts.{size_at, outcome, AreLeft, load}
use Rattle.spx_simplify.proofs.goals.+follows.Given as goal

abbrev pub decreases-follows : goal.decreases-follows
decreases-follows l = 2 * l.goal.0 + 1

abbrev pub decreases-follows_under : goal.decreases-follows_under
decreases-follows_under l = 2 * l.goal.0 + 2

abbrev pub invariant-follows-goals : goal.invariant-follows-goals
invariant-follows-goals l = record {
  at : l.at.0 ≤ l.fn.goal.0;
  within : AreLeft (l.fn.goal.0 + 1) l.left;
  sized : Sized (length l.terms) l.known;
  knows : (hyps : List Term) → Knows l.terms hyps l.initial.known → Knows l.terms hyps l.known;
  same : (hyps : List Term) → Knows l.terms hyps l.initial.known → outcome l.terms hyps l.left (is_plain hyps (tree_at l.terms l.at)) ≡ is_plain hyps (tree_at l.terms l.fn.goal);
}

abbrev pub decreases-follows-goals : goal.decreases-follows-goals
decreases-follows-goals l = load l.terms l.left + size_at l.terms l.at
