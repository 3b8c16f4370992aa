use Rattle.std.proofs.Common.{ℕ, suc, zero, pos, ◌≤◌, subst, arith}
use Rattle.spx_tree.specs.declared.expression.Expr.{Expr, Expr-F, out-Expr}
use Rattle.spx_tree.specs.declared.expression.Expr.TheVariants as tree
use Rattle.spx_tree.specs.declared.expression.Expr.TheVariants.{outs-Infix}
use Rattle.spx_tree.specs.declared.expression.InfixOp.TheVariants as op
use Rattle.spx_tree.specs.declared.expression.Layer.{Layer}
use Rattle.spx_tree.specs.declared.expression.Layer.TheVariants as layer
use Rattle.spx_tree.specs.Grammar.{IsNode, LayerWithin, OfLayer, layer_at, rank}
use Rattle.spx_examples.specs.Assertions.{implying, positive_written}
use Rattle.spx_examples.specs.Increment.{place, x_written}
use Rattle.spx_examples.specs.Names.{value_named}
use Rattle.spx_examples.proofs.WrittenExpressions.{infix_fits, number_fits, parenthesized_fits, simple_fits}
use Rattle.spx_examples.proofs.assertion_laws.an_implication_is_a_predicate.Goals as goal

-- `X > 0`
positive_fits : (l : Layer) (n : ℕ) → 4 ≤ rank l → OfLayer l (suc n) positive_written
positive_fits l n enough =
    infix_fits l n op.Greater (place 3 12) (value_named (x_written 3 10)) (tree.Number (pos 0) (place 3 14)) enough (simple_fits layer.Predicate n _) (simple_fits layer.Sum n _).0 (number_fits layer.Sum n _ _)

-- `X > 0 -> X > 0`
implication_fits : (n : ℕ) → OfLayer layer.Predicate (suc (suc n)) (implying positive_written positive_written)
implication_fits n =
    infix_fits layer.Predicate (suc n) op.Implies (place 3 16) positive_written positive_written (omega arith) (positive_fits layer.Predicate n (omega arith)) (positive_fits layer.Expression n (omega arith)).0 (positive_fits layer.Expression n (omega arith))

-- an implication is of no layer before that of predicates
too_late : (a b : Expr) (k : ℕ) → k ≤ 5 → rank (layer_at (out-Expr (implying a b))) ≤ k → ⊥
too_late a b k few low = let six : 6 ≤ k = subst (λ (y : Expr-F Expr). rank (layer_at y) ≤ k) (outs-Infix op.Implies (place 3 16) a b) low in omega (arith, six, few)

-- its operands
opened : (a b : Expr) (levels : ℕ) → OfLayer layer.Predicate levels (implying a b) → IsNode (LayerWithin levels) (Expr-F.Infix op.Implies (place 3 16) a b)
opened a b levels h = subst (IsNode (LayerWithin levels)) (outs-Infix op.Implies (place 3 16) a b) h.1

right_within : (a b : Expr) (levels : ℕ) → LayerWithin levels layer.Expression (implying a b) → ⊥
right_within a b zero h = absurd h
right_within a b (suc levels) h = too_late a b 5 (omega arith) h.0

pub returns-clause-predicate : goal.returns-clause-predicate
returns-clause-predicate c = implication_fits 0

pub returns-clause-no_expression : goal.returns-clause-no_expression
returns-clause-no_expression c levels h = too_late positive_written positive_written 5 (omega arith) h.0

pub returns-clause-none_left : goal.returns-clause-none_left
returns-clause-none_left c levels h = too_late positive_written positive_written 5 (omega arith) (opened (implying positive_written positive_written) positive_written levels h).1

pub returns-clause-none_right : goal.returns-clause-none_right
returns-clause-none_right c levels h = right_within positive_written positive_written levels (opened positive_written (implying positive_written positive_written) levels h).2

pub returns-clause-parenthesized : goal.returns-clause-parenthesized
returns-clause-parenthesized c =
    infix_fits layer.Predicate 3 op.Implies (place 3 16) (tree.Parenthesized (place 3 9) (implying positive_written positive_written)) positive_written (omega arith)
    (parenthesized_fits layer.Predicate 2 (place 3 9) _ (implication_fits 0)) (parenthesized_fits layer.Expression 2 (place 3 9) _ (implication_fits 0)).0 (positive_fits layer.Expression 2 (omega arith))
