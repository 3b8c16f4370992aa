-- An assignment whose right side has an answer, and operations on what is not static, in any surroundings.
use Rattle.std.proofs.Common.{◌≡◌, ℕ, [], ◌∷◌, None, Ok, ap, ap₂, ◌∙◌}
use Rattle.spx_text.specs.declared.place.Place.{Place}
use Rattle.spx_tree.specs.declared.expression.InfixOp.{InfixOp}
use Rattle.spx_tree.specs.declared.expression.InfixOp.TheVariants as op
use Rattle.spx_tree.specs.declared.expression.PrefixOp.{PrefixOp}
use Rattle.spx_core.specs.declared.entity.TheConstants.{INTEGER}
use Rattle.spx_core.specs.declared.expression.CoreExpr.{CoreExpr}
use Rattle.spx_core.specs.declared.expression.CoreExpr.TheVariants.{Name, Prefix, Infix}
use Rattle.spx_core.specs.declared.name.CoreName.{CoreName}
use Rattle.spx_core.specs.declared.rule.ExprType.TheVariants.{Of}
use Rattle.spx_core.specs.declared.rule.Typing.{Typing}
use Rattle.spx_core.specs.declared.statement.CoreStmt.TheVariants.{Assignment}
use Rattle.spx_core.specs.Commands.{commands}
use Rattle.spx_core.specs.Judged.{Judged, expr_step, judged, named_value, typing}
use Rattle.spx_core.specs.Places.{place_of}
use Rattle.spx_core.specs.Uses.{variable_of}
use Rattle.spx_core.proofs.Callers.Expressions.{fold-Name, fold-Infix}
use Rattle.spx_meaning.specs.declared.bad.BadKind.{BadKind}
use Rattle.spx_meaning.specs.Stores.{Store}
use Rattle.spx_meaning.specs.Frames.{Frame}
use Rattle.spx_meaning.specs.Evaluation.{Answer, Fails, with_value, checked, decided, signed, static_or, read, eval, eval-Name, eval-Prefix, eval-Infix}
use Rattle.spx_meaning.specs.Literals.{base_judged, base_of, literal, literal_in}
use Rattle.spx_meaning.specs.Runs.{Outcome, Ended, then_do, use_value, assign, run}
use Rattle.spx_examples.specs.Names.{target_to}
use Rattle.spx_examples.proofs.Statements.{assignment_is, operating}

-- the target takes this answer
abbrev pub taking : Frame → Store → CoreName → CoreExpr → Answer → Outcome
taking f s target e answer = then_do (use_value answer (assign f.program (place_of e) (variable_of target.entity) s)) Ended

pub assigns : (f : Frame) (n : ℕ) (s : Store) (target : CoreName) (e : CoreExpr) (answer : Answer) → eval f n s e ≡ answer → run f n s (commands (Assignment (target_to target) e ∷ [])) ≡ taking f s target e answer
assigns f n s target e answer is = ap (run f n s) (assignment_is (target_to target) e) ∙ ap (taking f s target e) is

-- a number that is not static
abbrev pub numeric : Place → Judged Typing
numeric at = Ok (typing (Of INTEGER.base) None at)

pub sum_is_not_static : (at left right : Place) (a b : CoreExpr) → judged a ≡ numeric left → judged b ≡ numeric right → literal (Infix op.Add at a b) ≡ None
sum_is_not_static at left right a b is_a is_b = ap literal_in (fold-Infix expr_step op.Add at a b ∙ ap₂ (operating op.Add at) is_a is_b)

pub comparison_is_not_static : (at left right : Place) (a b : CoreExpr) → judged a ≡ numeric left → judged b ≡ numeric right → literal (Infix op.Greater at a b) ≡ None
comparison_is_not_static at left right a b is_a is_b = ap literal_in (fold-Infix expr_step op.Greater at a b ∙ ap₂ (operating op.Greater at) is_a is_b)

-- ---- what expressions give, of which it is known what they are judged to be

-- an operation on an operand that gives this
abbrev pub signed_as : PrefixOp → Place → Judged Typing → Answer → Answer
signed_as o at j a = static_or (literal_in j) (with_value a (λ x. signed o (base_judged j) at x))

-- an operation on operands that give these, of which the right one stands at the second place
abbrev pub operated_as : InfixOp → (at right : Place) → Judged Typing → (a b : Answer) → Answer
operated_as o at right j a b = static_or (literal_in j) (with_value a (λ x. static_or (decided o x) (with_value b (λ y. checked o (base_judged j) at right x y))))

module _ (f : Frame) (n : ℕ) (s : Store) where
  -- a literal gives its value, and a variable is read
  pub eval_name : (name : CoreName) → eval f n s (Name name) ≡ static_or (literal_in (named_value name)) (read s name.name.place (variable_of name.entity))
  eval_name name = eval-Name f n s name ∙ ap (λ j. static_or (literal_in j) (read s name.name.place (variable_of name.entity))) (fold-Name expr_step name)

  pub eval_signed : (o : PrefixOp) (at : Place) (a : CoreExpr) (j : Judged Typing) (u : Answer) → judged (Prefix o at a) ≡ j → eval f n s a ≡ u → eval f n s (Prefix o at a) ≡ signed_as o at j u
  eval_signed o at a j u is_j is_u = eval-Prefix f n s o at a ∙ ap₂ (signed_as o at) is_j is_u

  pub eval_operated : (o : InfixOp) (at : Place) (a b : CoreExpr) (j : Judged Typing) (u v : Answer) → judged (Infix o at a b) ≡ j → eval f n s a ≡ u → eval f n s b ≡ v
      → eval f n s (Infix o at a b) ≡ operated_as o at (place_of b) j u v
  eval_operated o at a b j u v is_j is_u is_v =
      eval-Infix f n s o at a b ∙ ap₂ (λ k a. operated_as o at (place_of b) k a (eval f n s b)) is_j is_u ∙ ap (operated_as o at (place_of b) j u) is_v

-- the left operand fails, and so the operation
pub left_fails : (f : Frame) (n : ℕ) (s : Store) (o : InfixOp) (at : Place) (a b : CoreExpr) (kind : BadKind) (bad : Place) → literal (Infix o at a b) ≡ None → eval f n s a ≡ Fails kind bad → eval f n s (Infix o at a b) ≡ Fails kind bad
left_fails f n s o at a b kind bad none fails =
    eval-Infix f n s o at a b
    ∙ ap₂ (λ l left. static_or l (with_value left (λ u. static_or (decided o u) (with_value (eval f n s b) (λ v. checked o (base_of (Infix o at a b)) at (place_of b) u v))))) none fails
