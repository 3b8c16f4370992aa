-- Powers of numbers where they meet a type: what they are judged to be, their terms and checks, and what they give.
use Rattle.std.proofs.Common.{◌≡◌, ℕ, ◌+◌, ℤ, [], Some, ap, ◌∙◌}
use denote.Hole.Carrier.{hidden}
use Rattle.spx_tree.specs.declared.expression.InfixOp.TheVariants as op
use Rattle.spx_core.specs.declared.entity.Subtype.{Subtype}
use Rattle.spx_core.specs.declared.entity.VarId.{VarId}
use Rattle.spx_core.specs.declared.expression.CoreExpr.{CoreExpr}
use Rattle.spx_core.specs.declared.expression.CoreExpr.TheBlock.{hidden-the_row-CoreExpr-0}
use Rattle.spx_core.specs.declared.program.Program.{Program}
use Rattle.spx_core.specs.declared.rule.ExprType.{ExprType}
use Rattle.spx_core.specs.declared.rule.ExprType.TheVariants.{Of}
use Rattle.spx_core.specs.declared.rule.Typing.{Typing}
use Rattle.spx_core.specs.Contexts.{in_context}
use Rattle.spx_core.specs.Judged.{Judged, judged}
use Rattle.spx_term.specs.declared.term.Term.{Term}
use Rattle.spx_term.specs.Steps.{Tree}
use Rattle.spx_meaning.specs.Evaluation.{Gives, eval, eval-Implicit, eval-Number, read}
use Rattle.spx_meaning.specs.Frames.{Frame}
use Rattle.spx_meaning.specs.Stores.{Store}
use Rattle.spx_paths.specs.Checks.{checks}
use Rattle.spx_formula.specs.Terms.{now_term, term_of}
use Rattle.spx_examples.specs.Increment.{place}
use Rattle.spx_examples.specs.Operators.{a, number}
use Rattle.spx_examples.specs.Powers.{converted_at, n_at, n_named, number_at, power, power_of}
use Rattle.spx_examples.proofs.Computing.{checks_are, checks_now, judged_is, judged_now, place_is, term_is, term_now}
use Rattle.spx_examples.proofs.Contexts.{context_is, context_now}
use Rattle.spx_examples.proofs.Evaluations.{eval_name, eval_operated, operated_as}

-- what an expression is judged to be where it meets a type
pub judged_there : (of : ExprType) (e : CoreExpr) → judged (in_context of e) ≡ judged_now (context_now of e)
judged_there of e = ap judged (context_is of e) ∙ judged_is (context_now of e)

-- ---- terms and checks

module _ (p : Program) (entered : VarId → Term) (of : ExprType) (e : CoreExpr) where
  pub term_there : term_of p entered (in_context of e) ≡ term_now (now_term p) entered (context_now of e)
  term_there = ap (term_of p entered) (context_is of e) ∙ term_is (now_term p) entered (context_now of e)

  pub checks_there : (rest : Tree) → checks p entered [] (in_context of e) rest ≡ checks_now p entered [] (context_now of e) rest
  checks_there rest = ap (λ x. checks p entered [] x rest) (context_is of e) ∙ checks_are p entered [] (context_now of e) rest

-- ---- runs

module _ (f : Frame) (bound : ℕ) (s : Store) (subtype : Subtype) (k : ℤ) (column : ℕ) where
  pub eval_power : eval f bound s (power_of subtype k column)
      ≡ operated_as op.Power (place 1 (column + 2)) (place 1 (column + 5)) (judged_now (power_of subtype k column)) (Gives (number k)) (read s (place 1 (column + 5)) (Some a))
  unfolding hidden-the_row-CoreExpr-0 hidden
  eval_power =
      let j : Judged Typing = judged_now (power_of subtype k column) in
      let left : CoreExpr = number_at k column in
      eval_operated f bound s op.Power (place 1 (column + 2)) (converted_at subtype column left) (n_at (column + 5)) j (Gives (number k)) (read s (place 1 (column + 5)) (Some a))
      (judged_is (power_of subtype k column))
      (eval-Implicit f bound s subtype.base (place 1 column) left ∙ eval-Number f bound s k (place 1 column))
      (eval_name f bound s (n_named (column + 5)))
      ∙ ap (λ at. operated_as op.Power (place 1 (column + 2)) at j (Gives (number k)) (read s (place 1 (column + 5)) (Some a))) (place_is (n_at (column + 5)))

  -- where the power meets the type
  pub eval_there : context_now (Of subtype.base) (power k column) ≡ power_of subtype k column → eval f bound s (in_context (Of subtype.base) (power k column))
      ≡ operated_as op.Power (place 1 (column + 2)) (place 1 (column + 5)) (judged_now (power_of subtype k column)) (Gives (number k)) (read s (place 1 (column + 5)) (Some a))
  eval_there is = ap (eval f bound s) (context_is (Of subtype.base) (power k column) ∙ is) ∙ eval_power
