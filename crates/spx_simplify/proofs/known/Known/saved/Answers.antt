use Rattle.spx_simplify.proofs.Tables.{restores_infix, restores_other, restores_unary}
use Rattle.spx_arena.specs.declared.terms.Node.TheVariants as node
use Rattle.std.proofs.Common.{refl}
use Rattle.spx_simplify.proofs.known.Known.saved.Goals as goal

pub returns-in-Infix-clause-restores : goal.returns-in-Infix-clause-restores
returns-in-Infix-clause-restores c = λ hyps knows.
    restores_infix c.args.terms.now hyps c.args.self.now _ knows c.requires.within c.has-was.ensures c.in-Infix.field-0 c.in-Infix.left c.in-Infix.right c.in-Infix.ensures.tree c.in-Infix.ensures.below c.bounds_at.ensures c.bounds_at-in-Infix.ensures

pub returns-in-Unary-clause-restores : goal.returns-in-Unary-clause-restores
returns-in-Unary-clause-restores c = λ hyps knows.
    restores_unary c.args.terms.now hyps c.args.self.now _ knows c.requires.within c.has-was.ensures c.in-Unary.field-0 c.in-Unary.operand c.in-Unary.ensures.tree c.in-Unary.ensures.below c.said_at.ensures

pub returns-in-Number-clause-restores : goal.returns-in-Number-clause-restores
returns-in-Number-clause-restores c = λ hyps knows.
    restores_other c.args.terms.now hyps c.args.self.now _ knows c.requires.within c.has-was.ensures (node.Number c.in-Number.field-0) c.in-Number.ensures.tree refl

pub returns-in-Truth-clause-restores : goal.returns-in-Truth-clause-restores
returns-in-Truth-clause-restores c = λ hyps knows.
    restores_other c.args.terms.now hyps c.args.self.now _ knows c.requires.within c.has-was.ensures (node.Truth c.in-Truth.field-0) c.in-Truth.ensures.tree refl

pub returns-in-Variable-clause-restores : goal.returns-in-Variable-clause-restores
returns-in-Variable-clause-restores c = λ hyps knows.
    restores_other c.args.terms.now hyps c.args.self.now _ knows c.requires.within c.has-was.ensures (node.Variable c.in-Variable.field-0) c.in-Variable.ensures.tree refl

pub returns-in-Prefix-clause-restores : goal.returns-in-Prefix-clause-restores
returns-in-Prefix-clause-restores c = λ hyps knows.
    restores_other c.args.terms.now hyps c.args.self.now _ knows c.requires.within c.has-was.ensures (node.Prefix c.in-Prefix.field-0 c.in-Prefix.field-1) c.in-Prefix.ensures.tree refl

pub returns-in-Blank-clause-restores : goal.returns-in-Blank-clause-restores
returns-in-Blank-clause-restores c = λ hyps knows.
    restores_other c.args.terms.now hyps c.args.self.now _ knows c.requires.within c.has-was.ensures (node.Blank c.in-Blank.field-0) c.in-Blank.ensures.tree refl

pub returns-in-Binary-clause-restores : goal.returns-in-Binary-clause-restores
returns-in-Binary-clause-restores c = λ hyps knows.
    restores_other c.args.terms.now hyps c.args.self.now _ knows c.requires.within c.has-was.ensures (node.Binary c.in-Binary.field-0 c.in-Binary.field-1 c.in-Binary.field-2) c.in-Binary.ensures.tree refl

pub returns-in-Ternary-clause-restores : goal.returns-in-Ternary-clause-restores
returns-in-Ternary-clause-restores c = λ hyps knows.
    restores_other c.args.terms.now hyps c.args.self.now _ knows c.requires.within c.has-was.ensures (node.Ternary c.in-Ternary.field-0 c.in-Ternary.field-1 c.in-Ternary.field-2 c.in-Ternary.field-3) c.in-Ternary.ensures.tree refl
