-- The ways past exits.
use Rattle.std.proofs.Common.{◌≡◌, ℕ, pos, [], ◌∷◌, ap, ◌∙◌}
use Rattle.spx_term.specs.declared.term.TermOp.TheVariants as sign
use Rattle.spx_term.specs.declared.term.TermPrefix.TheVariants.{Not}
use Rattle.spx_term.specs.declared.term.Term.TheVariants as term
use Rattle.spx_term.specs.Conjuncts.{conjuncts, conjuncts-Infix}
use Rattle.spx_term.specs.Steps.{Tree, Assume, Split, assume_all}
use Rattle.spx_paths.specs.Walks.{walk}
use Rattle.spx_examples.specs.Exits.{exit_alone, exit_below, past_exit, where_below}
use Rattle.spx_examples.specs.Loops.{only}
use Rattle.spx_examples.specs.Next.{below_now, forked}
use Rattle.spx_examples.specs.Refused.{inc_without_pre as sub, increment_without_pre as p}
use Rattle.spx_examples.proofs.NextConditions.{checks_below, term_of_below, tested_below}
use Rattle.spx_examples.proofs.Sums.{now_x}

module _ (rest leave : ℕ → Tree) (made : ℕ) where
  pub alone : walk p sub exit_below rest leave made ≡ past_exit (rest made) (leave made)
  alone =
      checks_below (sub ∷ []) _
      ∙ ap (λ test. Split (Assume (term.Prefix Not test) (rest made)) (assume_all (conjuncts test) (leave made))) (term_of_below (sub ∷ []))
      ∙ ap (λ parts. Split (Assume (term.Prefix Not below_now) (rest made)) (assume_all parts (leave made))) (conjuncts-Infix sign.Less now_x (term.Number (pos 100)))

  pub arm : walk p sub (where_below (only exit_alone)) rest leave made ≡ forked (leave made) (rest made)
  arm = tested_below (sub ∷ []) leave rest made
