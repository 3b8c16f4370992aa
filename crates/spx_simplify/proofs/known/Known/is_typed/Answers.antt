use Rattle.std.proofs.Common.{sym, ◌∙◌}
use Rattle.spx_arena.specs.Sharing.{tree_at}
use Rattle.spx_simplify.proofs.Components.{said_is_typed}
use Rattle.spx_simplify.proofs.known.Known.is_typed.Goals as goal

pub returns-then-said_at : goal.returns-then-said_at
returns-then-said_at c = λ hyps knows.
    let inv = c.component.invariant in
    let said = sym (knows.said c.component.at.0 inv.within) ∙ sym c.said_at.ensures ∙ c.if-said_at.true in
    sym (inv.same hyps knows ∙ said_is_typed hyps (tree_at c.args.terms.now c.component.at) said)
