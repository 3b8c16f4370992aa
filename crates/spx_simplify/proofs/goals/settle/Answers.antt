use Rattle.std.proofs.Common.{ap, sym, ◌∙◌}
use Rattle.spx_term.specs.declared.term.Term.TheVariants as term
use Rattle.spx_arena.specs.declared.terms.Node.TheVariants as node
use Rattle.spx_arena.specs.Sharing.{tree_at}
use Rattle.spx_simplify.proofs.Tables.{given}
use Rattle.spx_simplify.proofs.Verdicts.{plain_known, plain_number, plain_truth, plain_variable, plain_prefix, plain_blank, plain_unary, plain_binary, plain_ternary, plain_both, plain_either, plain_under, plain_settled}
use Rattle.spx_simplify.proofs.Outcomes.{some_at, halves}
use Rattle.spx_simplify.proofs.goals.settle.Goals as goal

pub returns-then-has-clause-verdict : goal.returns-then-has-clause-verdict
returns-then-has-clause-verdict c = λ hyps knows.
    plain_known c.args.terms.now hyps c.args.known.now knows c.args.goal c.requires.within c.node-node.result c.node-node.ensures.tree (sym c.has.ensures ∙ c.if-has.true)

pub returns-in-Truth-clause-verdict : goal.returns-in-Truth-clause-verdict
returns-in-Truth-clause-verdict c = λ hyps knows.
    plain_truth c.args.terms.now hyps c.args.known.now knows c.args.goal c.requires.within (sym c.has.ensures ∙ c.if-has.false) c.in-Truth.value c.in-Truth.ensures.tree

pub returns-in-Number-clause-verdict : goal.returns-in-Number-clause-verdict
returns-in-Number-clause-verdict c = λ hyps knows.
    plain_number c.args.terms.now hyps c.args.known.now knows c.args.goal c.requires.within (sym c.has.ensures ∙ c.if-has.false) c.in-Number.field-0 c.in-Number.ensures.tree

pub returns-in-Variable-clause-verdict : goal.returns-in-Variable-clause-verdict
returns-in-Variable-clause-verdict c = λ hyps knows.
    plain_variable c.args.terms.now hyps c.args.known.now knows c.args.goal c.requires.within (sym c.has.ensures ∙ c.if-has.false) c.in-Variable.field-0 c.in-Variable.ensures.tree

pub returns-in-Prefix-clause-verdict : goal.returns-in-Prefix-clause-verdict
returns-in-Prefix-clause-verdict c = λ hyps knows.
    plain_prefix c.args.terms.now hyps c.args.known.now knows c.args.goal c.requires.within (sym c.has.ensures ∙ c.if-has.false) c.in-Prefix.field-0 (tree_at c.args.terms.now c.in-Prefix.field-1) c.in-Prefix.ensures.tree

pub returns-in-And-clause-parts : goal.returns-in-And-clause-parts
returns-in-And-clause-parts c = halves c.args.terms.now c.args.goal c.in-Infix.left c.in-Infix.right c.in-Infix.op c.in-Infix.ensures.tree c.in-Infix.ensures.below

pub returns-in-And-clause-verdict : goal.returns-in-And-clause-verdict
returns-in-And-clause-verdict c = λ hyps knows.
    let ts = c.args.terms.now in
    let a = tree_at ts c.in-Infix.left in
    let b = tree_at ts c.in-Infix.right in
    plain_both ts hyps c.args.known.now knows c.args.goal c.requires.within (sym c.has.ensures ∙ c.if-has.false) a b (c.in-Infix.ensures.tree ∙ ap (λ o. term.Infix o a b) c.in-And.is)

pub returns-in-Or-clause-parts : goal.returns-in-Or-clause-parts
returns-in-Or-clause-parts c = halves c.args.terms.now c.args.goal c.in-Infix.left c.in-Infix.right c.in-Infix.op c.in-Infix.ensures.tree c.in-Infix.ensures.below

pub returns-in-Or-clause-verdict : goal.returns-in-Or-clause-verdict
returns-in-Or-clause-verdict c = λ hyps knows.
    let ts = c.args.terms.now in
    let a = tree_at ts c.in-Infix.left in
    let b = tree_at ts c.in-Infix.right in
    plain_either ts hyps c.args.known.now knows c.args.goal c.requires.within (sym c.has.ensures ∙ c.if-has.false) a b (c.in-Infix.ensures.tree ∙ ap (λ o. term.Infix o a b) c.in-Or.is)

pub returns-in-Implies-clause-parts : goal.returns-in-Implies-clause-parts
returns-in-Implies-clause-parts c = halves c.args.terms.now c.args.goal c.in-Infix.left c.in-Infix.right c.in-Infix.op c.in-Infix.ensures.tree c.in-Infix.ensures.below

pub returns-in-Implies-clause-verdict : goal.returns-in-Implies-clause-verdict
returns-in-Implies-clause-verdict c = λ hyps knows.
    let ts = c.args.terms.now in
    let a = tree_at ts c.in-Infix.left in
    let b = tree_at ts c.in-Infix.right in
    plain_under ts hyps c.args.known.now knows c.args.goal c.requires.within (sym c.has.ensures ∙ c.if-has.false) a b (c.in-Infix.ensures.tree ∙ ap (λ o. term.Infix o a b) c.in-Implies.is)

pub returns-in_ok-high-in_default-clause-parts : goal.returns-in_ok-high-in_default-clause-parts
returns-in_ok-high-in_default-clause-parts c = some_at c.args.terms.now c.args.goal (node.Infix c.in-Infix.op c.in-Infix.left c.in-Infix.right) c.in-Infix.ensures.tree

pub returns-in_ok-high-in_default-clause-verdict : goal.returns-in_ok-high-in_default-clause-verdict
returns-in_ok-high-in_default-clause-verdict c = λ hyps knows.
    let ts = c.args.terms.now in
    let left = c.in_ok-low-in_default.ensures in
    let right = c.in_ok-high-in_default.ensures in
    let later = left.knows hyps knows in
    c.settles.ensures
    ∙ plain_settled ts hyps c.args.known.now knows c.args.goal c.requires.within (sym c.has.ensures ∙ c.if-has.false) c.in-Infix.op (tree_at ts c.in-Infix.left) (tree_at ts c.in-Infix.right)
    c.in_ok-low-in_default.low c.in_ok-high-in_default.high c.in-Infix.ensures.tree c.in_default.not-And c.in_default.not-Or c.in_default.not-Implies
    (given ts hyps c.interval.new.self later c.in-Infix.left c.in_ok-low-in_default.low left.gives)
    (given ts hyps c.interval-in_default.new.self (right.knows hyps later) c.in-Infix.right c.in_ok-high-in_default.high right.gives)

pub returns-then-has-clause-parts : goal.returns-then-has-clause-parts
returns-then-has-clause-parts c = some_at c.args.terms.now c.args.goal c.node-node.result c.node-node.ensures.tree

pub returns-in-Truth-clause-parts : goal.returns-in-Truth-clause-parts
returns-in-Truth-clause-parts c = some_at c.args.terms.now c.args.goal (node.Truth c.in-Truth.value) c.in-Truth.ensures.tree

pub returns-in-Number-clause-parts : goal.returns-in-Number-clause-parts
returns-in-Number-clause-parts c = some_at c.args.terms.now c.args.goal (node.Number c.in-Number.field-0) c.in-Number.ensures.tree

pub returns-in-Variable-clause-parts : goal.returns-in-Variable-clause-parts
returns-in-Variable-clause-parts c = some_at c.args.terms.now c.args.goal (node.Variable c.in-Variable.field-0) c.in-Variable.ensures.tree

pub returns-in-Prefix-clause-parts : goal.returns-in-Prefix-clause-parts
returns-in-Prefix-clause-parts c = some_at c.args.terms.now c.args.goal (node.Prefix c.in-Prefix.field-0 c.in-Prefix.field-1) c.in-Prefix.ensures.tree

pub returns-in-Blank-clause-verdict : goal.returns-in-Blank-clause-verdict
returns-in-Blank-clause-verdict c = λ hyps knows.
    plain_blank c.args.terms.now hyps c.args.known.now knows c.args.goal c.requires.within (sym c.has.ensures ∙ c.if-has.false) c.in-Blank.field-0 c.in-Blank.ensures.tree

pub returns-in-Blank-clause-parts : goal.returns-in-Blank-clause-parts
returns-in-Blank-clause-parts c = some_at c.args.terms.now c.args.goal (node.Blank c.in-Blank.field-0) c.in-Blank.ensures.tree

pub returns-in-Unary-clause-verdict : goal.returns-in-Unary-clause-verdict
returns-in-Unary-clause-verdict c = λ hyps knows.
    plain_unary c.args.terms.now hyps c.args.known.now knows c.args.goal c.requires.within (sym c.has.ensures ∙ c.if-has.false) c.in-Unary.field-0 (tree_at c.args.terms.now c.in-Unary.field-1) c.in-Unary.ensures.tree

pub returns-in-Unary-clause-parts : goal.returns-in-Unary-clause-parts
returns-in-Unary-clause-parts c = some_at c.args.terms.now c.args.goal (node.Unary c.in-Unary.field-0 c.in-Unary.field-1) c.in-Unary.ensures.tree

pub returns-in-Binary-clause-verdict : goal.returns-in-Binary-clause-verdict
returns-in-Binary-clause-verdict c = λ hyps knows.
    plain_binary c.args.terms.now hyps c.args.known.now knows c.args.goal c.requires.within (sym c.has.ensures ∙ c.if-has.false) c.in-Binary.field-0 (tree_at c.args.terms.now c.in-Binary.field-1) (tree_at c.args.terms.now c.in-Binary.field-2) c.in-Binary.ensures.tree

pub returns-in-Binary-clause-parts : goal.returns-in-Binary-clause-parts
returns-in-Binary-clause-parts c = some_at c.args.terms.now c.args.goal (node.Binary c.in-Binary.field-0 c.in-Binary.field-1 c.in-Binary.field-2) c.in-Binary.ensures.tree

pub returns-in-Ternary-clause-verdict : goal.returns-in-Ternary-clause-verdict
returns-in-Ternary-clause-verdict c = λ hyps knows.
    plain_ternary c.args.terms.now hyps c.args.known.now knows c.args.goal c.requires.within (sym c.has.ensures ∙ c.if-has.false) c.in-Ternary.field-0 (tree_at c.args.terms.now c.in-Ternary.field-1) (tree_at c.args.terms.now c.in-Ternary.field-2) (tree_at c.args.terms.now c.in-Ternary.field-3) c.in-Ternary.ensures.tree

pub returns-in-Ternary-clause-parts : goal.returns-in-Ternary-clause-parts
returns-in-Ternary-clause-parts c = some_at c.args.terms.now c.args.goal (node.Ternary c.in-Ternary.field-0 c.in-Ternary.field-1 c.in-Ternary.field-2 c.in-Ternary.field-3) c.in-Ternary.ensures.tree
