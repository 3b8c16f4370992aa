use Rattle.std.proofs.Common.{◌≡◌, ap, sym, ◌∙◌, subst, rules}
use Rattle.std.proofs.lemmas.Int.{to_z-of_z}
use Rattle.spx_term.specs.declared.term.Term.TheVariants as term
use Rattle.spx_arena.specs.declared.terms.Node.{Node}
use Rattle.spx_arena.specs.Sharing.{tree_at, tree_in}
use Rattle.spx_term.specs.Intervals.{unbounded, bounded, interval, point, structural, interval-Number, interval-Truth, interval-Variable, interval-Blank, interval-Ternary}
use Rattle.spx_simplify.proofs.Tables.{interval_of_prefix, interval_of_infix, interval_of_unary, interval_of_binary}
use Rattle.spx_simplify.proofs.known.Known.structural.Goals as goal

pub returns-in-Number : goal.returns-in-Number
returns-in-Number c = λ hyps knows.
    let trees = c.args.terms.now in
    let e : c.point.result ≡ point c.in-Number.value = search (rules, to_z-of_z) in
    subst (λ (n : Node). interval hyps (tree_in trees n) ≡ bounded c.point.result hyps (tree_in trees n)) (sym c.in-Number.is)
    (interval-Number hyps c.in-Number.value ∙ ap (λ i. bounded i hyps (term.Number c.in-Number.value)) (sym e))

pub returns-in-Truth : goal.returns-in-Truth
returns-in-Truth c = λ hyps knows.
    let trees = c.args.terms.now in
    subst (λ (n : Node). interval hyps (tree_in trees n) ≡ bounded unbounded hyps (tree_in trees n)) (sym c.in-Truth.is) (interval-Truth hyps c.in-Truth.field-0)

pub returns-in-Variable : goal.returns-in-Variable
returns-in-Variable c = λ hyps knows.
    let trees = c.args.terms.now in
    subst (λ (n : Node). interval hyps (tree_in trees n) ≡ bounded unbounded hyps (tree_in trees n)) (sym c.in-Variable.is) (interval-Variable hyps c.in-Variable.field-0)

pub returns-in-Prefix : goal.returns-in-Prefix
returns-in-Prefix c = λ hyps knows.
    let trees = c.args.terms.now in
    subst (λ (n : Node). interval hyps (tree_in trees n) ≡ bounded c.structural_prefix.result hyps (tree_in trees n)) (sym c.in-Prefix.is)
    (interval_of_prefix trees hyps c.args.self.now knows c.in-Prefix.op c.in-Prefix.operand c.part.result c.structural_prefix.result c.part.ensures c.structural_prefix.ensures)

pub returns-in-Infix : goal.returns-in-Infix
returns-in-Infix c = λ hyps knows.
    let trees = c.args.terms.now in
    subst (λ (n : Node). interval hyps (tree_in trees n) ≡ bounded c.structural.result hyps (tree_in trees n)) (sym c.in-Infix.is)
    (interval_of_infix trees hyps c.args.self.now knows c.in-Infix.op c.in-Infix.left c.in-Infix.right c.part-low.result c.part-high.result c.structural.result c.part-low.ensures c.part-high.ensures
    (c.structural.ensures ∙ ap (structural c.in-Infix.op c.part-low.result c.part-high.result) c.literal_at.ensures))

pub returns-in-Unary : goal.returns-in-Unary
returns-in-Unary c = λ hyps knows.
    let trees = c.args.terms.now in
    subst (λ (n : Node). interval hyps (tree_in trees n) ≡ bounded c.structural_unary.result hyps (tree_in trees n)) (sym c.in-Unary.is)
    (interval_of_unary trees hyps c.in-Unary.op c.in-Unary.operand c.is_typed.result c.structural_unary.result (c.is_typed.ensures hyps knows) c.structural_unary.ensures)

pub returns-in-Binary : goal.returns-in-Binary
returns-in-Binary c = λ hyps knows.
    let trees = c.args.terms.now in
    subst (λ (n : Node). interval hyps (tree_in trees n) ≡ bounded c.structural_binary.result hyps (tree_in trees n)) (sym c.in-Binary.is)
    (interval_of_binary trees hyps c.in-Binary.op c.in-Binary.left c.in-Binary.field-2 c.is_typed-in-Binary.result c.structural_binary.result (c.is_typed-in-Binary.ensures hyps knows) c.structural_binary.ensures)

pub returns-in-Blank : goal.returns-in-Blank
returns-in-Blank c = λ hyps knows.
    let trees = c.args.terms.now in
    subst (λ (n : Node). interval hyps (tree_in trees n) ≡ bounded unbounded hyps (tree_in trees n)) (sym c.in-Blank.is) (interval-Blank hyps c.in-Blank.field-0)

pub returns-in-Ternary : goal.returns-in-Ternary
returns-in-Ternary c = λ hyps knows.
    let trees = c.args.terms.now in
    subst (λ (n : Node). interval hyps (tree_in trees n) ≡ bounded unbounded hyps (tree_in trees n)) (sym c.in-Ternary.is)
    (interval-Ternary hyps c.in-Ternary.field-0 (tree_at trees c.in-Ternary.field-1) (tree_at trees c.in-Ternary.field-2) (tree_at trees c.in-Ternary.field-3))
