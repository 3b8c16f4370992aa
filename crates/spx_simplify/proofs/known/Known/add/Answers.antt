use Rattle.std.proofs.Common.{true, ap, arith, length, length-set, refl, subst, ◌∙◌}
use Rattle.spx_term.specs.declared.term.TermOp.{TermOp}
use Rattle.spx_term.specs.Intervals.{bounds_before, meet}
use Rattle.spx_arena.specs.Sharing.{tree_at}
use Rattle.spx_term.specs.declared.term.Term.TheVariants as term
use Rattle.spx_term.specs.declared.term.UnaryOp.TheVariants as unary
use Rattle.spx_arena.specs.declared.terms.Node.TheVariants as node
use Rattle.spx_simplify.specs.Folds.{place_of}
use Rattle.spx_simplify.specs.Tables.{interval_at, Sets}
use Rattle.spx_simplify.proofs.Places.{leaves_same}
use Rattle.spx_simplify.proofs.Tables.{knows_in, knows_infix, knows_other}
use Rattle.spx_simplify.proofs.known.Known.add.Goals as goal

pub returns-in-Infix-clause-knows : goal.returns-in-Infix-clause-knows
returns-in-Infix-clause-knows c = λ hyps knows.
    let ts = c.args.terms.now in
    let a = c.in-Infix.left in
    let b = c.in-Infix.right in
    let mid = c.bound_before.new.self in
    knows_infix ts hyps c.args.self.now _ mid c.bound_before-in-Infix.new.self c.args.fact c.in-Infix.op a b c.distinct.ensures c.requires.within knows c.requires.sized c.set.ensures refl refl refl
    c.bound_before.ensures
    (subst (λ (o : TermOp). Sets (length ts) mid c.bound_before-in-Infix.new.self (λ i. meet (interval_at mid.bounds i) (bounds_before o (tree_at ts b) (tree_at ts a) (tree_at ts (place_of i))))) c.mirrored.ensures c.bound_before-in-Infix.ensures)
    c.in-Infix.ensures.tree

pub returns-in-Number-clause-knows : goal.returns-in-Number-clause-knows
returns-in-Number-clause-knows c = λ hyps knows.
    knows_other c.args.terms.now hyps c.args.self.now _ c.args.fact c.distinct.ensures c.requires.within knows c.requires.sized c.set.ensures (leaves_same _ _ refl refl refl) (node.Number c.in-Number.field-0) refl refl c.in-Number.ensures.tree refl

pub returns-in-Truth-clause-knows : goal.returns-in-Truth-clause-knows
returns-in-Truth-clause-knows c = λ hyps knows.
    knows_other c.args.terms.now hyps c.args.self.now _ c.args.fact c.distinct.ensures c.requires.within knows c.requires.sized c.set.ensures (leaves_same _ _ refl refl refl) (node.Truth c.in-Truth.field-0) refl refl c.in-Truth.ensures.tree refl

pub returns-in-Variable-clause-knows : goal.returns-in-Variable-clause-knows
returns-in-Variable-clause-knows c = λ hyps knows.
    knows_other c.args.terms.now hyps c.args.self.now _ c.args.fact c.distinct.ensures c.requires.within knows c.requires.sized c.set.ensures (leaves_same _ _ refl refl refl) (node.Variable c.in-Variable.field-0) refl refl c.in-Variable.ensures.tree refl

pub returns-in-Prefix-clause-knows : goal.returns-in-Prefix-clause-knows
returns-in-Prefix-clause-knows c = λ hyps knows.
    knows_other c.args.terms.now hyps c.args.self.now _ c.args.fact c.distinct.ensures c.requires.within knows c.requires.sized c.set.ensures (leaves_same _ _ refl refl refl) (node.Prefix c.in-Prefix.field-0 c.in-Prefix.field-1) refl refl c.in-Prefix.ensures.tree refl

pub returns-in-Blank-clause-knows : goal.returns-in-Blank-clause-knows
returns-in-Blank-clause-knows c = λ hyps knows.
    knows_other c.args.terms.now hyps c.args.self.now _ c.args.fact c.distinct.ensures c.requires.within knows c.requires.sized c.set.ensures (leaves_same _ _ refl refl refl) (node.Blank c.in-Blank.field-0) refl refl c.in-Blank.ensures.tree refl

pub returns-in-Binary-clause-knows : goal.returns-in-Binary-clause-knows
returns-in-Binary-clause-knows c = λ hyps knows.
    knows_other c.args.terms.now hyps c.args.self.now _ c.args.fact c.distinct.ensures c.requires.within knows c.requires.sized c.set.ensures (leaves_same _ _ refl refl refl) (node.Binary c.in-Binary.field-0 c.in-Binary.field-1 c.in-Binary.field-2) refl refl c.in-Binary.ensures.tree refl

pub returns-in-Ternary-clause-knows : goal.returns-in-Ternary-clause-knows
returns-in-Ternary-clause-knows c = λ hyps knows.
    knows_other c.args.terms.now hyps c.args.self.now _ c.args.fact c.distinct.ensures c.requires.within knows c.requires.sized c.set.ensures (leaves_same _ _ refl refl refl) (node.Ternary c.in-Ternary.field-0 c.in-Ternary.field-1 c.in-Ternary.field-2 c.in-Ternary.field-3) refl refl c.in-Ternary.ensures.tree refl

pub returns-in-In-clause-knows : goal.returns-in-In-clause-knows
returns-in-In-clause-knows c = λ hyps knows.
    let ts = c.args.terms.now in
    let within = c.requires.within in
    let below = c.in-Unary.ensures.below in
    knows_in ts hyps c.args.self.now _ c.set_said.new.self c.args.fact c.in-In.field-0 c.in-Unary.operand c.distinct.ensures within (omega (arith, within, below)) knows c.requires.sized c.set.ensures refl refl refl
    (c.set_said.ensures (length ts) (record { facts = ap length c.set.ensures ∙ length-set c.args.self.now.facts c.args.fact.0 true ∙ c.requires.sized.facts; bounds = c.requires.sized.bounds; said = c.requires.sized.said; places = c.requires.sized.places; placed = record { ids = c.requires.sized.placed.ids; at = c.requires.sized.placed.at } }))
    (c.in-Unary.ensures.tree ∙ ap (λ o. term.Unary o (tree_at ts c.in-Unary.operand)) c.in-In.is)

pub returns-in-Field-clause-knows : goal.returns-in-Field-clause-knows
returns-in-Field-clause-knows c = λ hyps knows.
    let ts = c.args.terms.now in
    knows_other ts hyps c.args.self.now _ c.args.fact c.distinct.ensures c.requires.within knows c.requires.sized c.set.ensures (leaves_same _ _ refl refl refl) (node.Unary (unary.Field c.in-Field.field-0 c.in-Field.field-1) c.in-Unary.operand) refl refl
    (c.in-Unary.ensures.tree ∙ ap (λ o. term.Unary o (tree_at ts c.in-Unary.operand)) c.in-Field.is) refl

pub returns-in-Others-clause-knows : goal.returns-in-Others-clause-knows
returns-in-Others-clause-knows c = λ hyps knows.
    let ts = c.args.terms.now in
    knows_other ts hyps c.args.self.now _ c.args.fact c.distinct.ensures c.requires.within knows c.requires.sized c.set.ensures (leaves_same _ _ refl refl refl) (node.Unary (unary.Others c.in-Others.field-0) c.in-Unary.operand) refl refl
    (c.in-Unary.ensures.tree ∙ ap (λ o. term.Unary o (tree_at ts c.in-Unary.operand)) c.in-Others.is) refl
