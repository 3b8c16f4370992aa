-- The step `rewrite` by an equation whose sides stand alone, in the goal, and a term at a greater depth.
use Rattle.std.proofs.Common.{◌≡◌, ℕ, ℤ, ◌+◌, pos, true, ◌&&◌, Option, None, [], ◌∷◌, ap, ap₂, ◌∙◌}
use denote.Hole.Carrier.{out, shown, hidden}
use Rattle.spx_term.specs.declared.term.Name.{Name}
use Rattle.spx_term.specs.declared.term.TermOp.{TermOp}
use Rattle.spx_term.specs.declared.term.TermOp.TheVariants as op
use Rattle.spx_term.specs.declared.term.TernaryOp.{TernaryOp}
use Rattle.spx_term.specs.declared.term.Term.{Term, out-Term}
use Rattle.spx_term.specs.declared.term.Term.TheBlock.{shown-the_row-Term-0, hidden-the_row-Term-0}
use Rattle.spx_term.specs.declared.term.Term.TheVariants.{Number, Variable, Infix, Ternary}
use Rattle.spx_term.specs.Substitution.{deeper_name, deeper_op, raised_step, raised}
use Rattle.spx_term.proofs.Terms.{fold-Number, fold-Variable, fold-Infix, fold-Ternary}
use Rattle.spx_kernel.specs.declared.rule.RuleOf.TheVariants as rule
use Rattle.spx_kernel.specs.Quantifiers.{is_scoped}
use Rattle.spx_kernel.specs.Rewriting.{rewritten}
use Rattle.spx_kernel.specs.Steps.{only_if, rewrite_goal, step}
use Rattle.spx_examples.specs.LinearExamples.{integer_n, at_most}
use Rattle.spx_examples.specs.StepExamples.{under, bound_k, all_k_to}

-- what the step gives, where the sides of the equation stand alone and the goal is changed so
pub rewrite_by : (a b goal : Term) (changed : Option Term) → is_scoped [] a ≡ true → is_scoped [] b ≡ true → rewritten a b goal ≡ changed →
    step (under (Infix op.Equal a b ∷ []) goal) (rule.Rewrite (pos 1) None) ≡ rewrite_goal (under (Infix op.Equal a b ∷ []) goal) changed
unfolding step out-Term out shown-the_row-Term-0 shown hidden-the_row-Term-0 hidden
rewrite_by a b goal changed p q r =
    let s = under (Infix op.Equal a b ∷ []) goal in
    ap₂ (λ x y. only_if (x && y) (rewrite_goal s (rewritten a b goal))) p q ∙ ap (rewrite_goal s) r

-- ---- a term at a greater depth

-- `for all K#d in 1 .. N => (K#d <= N)`
abbrev below_n : ℕ → Term
below_n d = all_k_to d integer_n (at_most (bound_k d) integer_n)

module _ (k : ℕ) where
  number_raised : (n : ℤ) → raised k (Number n) ≡ Number n
  unfolding raised
  number_raised n = fold-Number (raised_step k) n

  variable_raised : (name : Name) → raised k (Variable name) ≡ Variable (deeper_name k name)
  unfolding raised
  variable_raised name = fold-Variable (raised_step k) name

  infix_raised : (o : TermOp) (a b : Term) {d e : Term} → raised k a ≡ d → raised k b ≡ e → raised k (Infix o a b) ≡ Infix o d e
  unfolding raised
  infix_raised o a b p q = fold-Infix (raised_step k) o a b ∙ ap₂ (Infix o) p q

  ternary_raised : (o : TernaryOp) (a b c : Term) {d e f : Term} → raised k a ≡ d → raised k b ≡ e → raised k c ≡ f → raised k (Ternary o a b c) ≡ Ternary (deeper_op k o) d e f
  unfolding raised
  ternary_raised o a b c p q r = fold-Ternary (raised_step k) o a b c ∙ (λ i. Ternary (deeper_op k o) (p i) (q i) (r i))

  pub raised_below_n : raised k (below_n 1) ≡ below_n (1 + k)
  raised_below_n = ternary_raised _ _ _ _ (number_raised _) (variable_raised _) (infix_raised _ _ _ (variable_raised _) (variable_raised _))
