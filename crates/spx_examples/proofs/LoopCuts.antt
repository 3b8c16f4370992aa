-- The trees from the cuts of loops.
use Rattle.std.proofs.Common.{◌≡◌, ℕ, pos, true, [], ◌∷◌, refl, ap, ◌∙◌}
use Rattle.spx_core.specs.Commands.{Then}
use Rattle.spx_term.specs.declared.condition.CondKind.TheVariants.{Assert}
use Rattle.spx_term.specs.declared.term.TermOp.TheVariants as sign
use Rattle.spx_term.specs.declared.term.Term.TheVariants as term
use Rattle.spx_term.specs.Conjuncts.{conjuncts, conjuncts-Infix}
use Rattle.spx_term.specs.Steps.{Tree, Cut, check}
use Rattle.spx_formula.specs.Terms.{entry_term, term_of}
use Rattle.spx_paths.specs.Walks.{cuts, from_cut, walk}
use Rattle.spx_examples.specs.Assertions.{is_positive, now_is_positive}
use Rattle.spx_examples.specs.Increment.{place}
use Rattle.spx_examples.specs.Loops.{asserting, asserting_from_cut, assert_in, counting, counting_from_cut, counted, from_cut_with, only, step_in}
use Rattle.spx_examples.specs.Next.{forked}
use Rattle.spx_examples.specs.Refused.{inc_without_pre as sub, increment_without_pre as p}
use Rattle.spx_examples.proofs.AssertionConditions.{term_of_positive}
use Rattle.spx_examples.proofs.NextConditions.{tested_below}
use Rattle.spx_examples.proofs.Sums.{now_x, walk_step}

positive_parts : (line column : ℕ) → conjuncts (term_of p (entry_term p sub) (is_positive line column)) ≡ now_is_positive ∷ []
positive_parts line column = ap conjuncts (term_of_positive sub refl line column) ∙ conjuncts-Infix sign.Greater now_x (term.Number (pos 0))

module _ (rest leave : ℕ → Tree) where
  abbrev counts : ℕ → Tree
  counts = walk p sub counting rest leave

  pub counting_cut : cuts p sub [] counting rest leave ≡ counting_from_cut (rest 0) ∷ []
  counting_cut = ap (λ t. from_cut_with (term.Truth true) t ∷ []) (walk_step (sub ∷ []) sub 6 7 12 counts rest 0 ∙ ap (counted 6) (tested_below (sub ∷ []) (λ made. Cut) rest 0))

  abbrev asserts : ℕ → Tree
  asserts = walk p sub asserting rest leave

  pub asserting_cut : cuts p sub [] asserting rest leave ≡ asserting_from_cut (rest 0) ∷ []
  asserting_cut =
      ap (λ t. from_cut p sub [] (conjuncts (term_of p (entry_term p sub) (is_positive 6 18))) t ∷ []) (
      walk_step (sub ∷ []) sub 7 7 12 asserts rest 0
      ∙ ap (counted 7) (tested_below (sub ∷ []) (walk p sub (Then (assert_in 6) (only (step_in 7))) (λ made. Cut) rest) rest 0))
      ∙ ap (λ parts. from_cut p sub [] parts (counted 7 (forked (check Assert (place 6 11) parts Cut) (rest 0))) ∷ []) (positive_parts 6 18)
