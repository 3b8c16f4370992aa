use Rattle.std.proofs.Common.{◌≡◌, ◌<◌, List, length}
use Rattle.spx_term.specs.declared.term.Term.{Term}
use Rattle.spx_term.specs.Intervals.{is_typed}
use Rattle.spx_arena.specs.Sharing.{tree_at}
use Rattle.spx_simplify.specs.Tables.{Knows}
use Rattle.spx_simplify.proofs.known.Known.is_typed.Given as goal

abbrev pub invariant-component : goal.invariant-component
invariant-component l = record {
  within : l.at.0 < length l.terms;
  same : (hyps : List Term) → Knows l.terms hyps l.self → is_typed hyps (tree_at l.terms l.fn.id) ≡ is_typed hyps (tree_at l.terms l.at);
}

abbrev pub decreases-component : goal.decreases-component
decreases-component l = l.at.0
