-- The terms of the sequents after the loop are truth values.
use Rattle.std.proofs.Common.{◌≡◌, ℤ, Some, refl, ap, ap₂, ◌∙◌}
use Rattle.std.specs.List.{AllByRecursion}
use Rattle.spx_term.specs.declared.term.Name.{Name}
use Rattle.spx_term.specs.declared.term.Sort.{Sort}
use Rattle.spx_term.specs.declared.term.Sort.TheVariants.{Integer, Boolean}
use Rattle.spx_term.specs.declared.term.TermOp.{TermOp}
use Rattle.spx_term.specs.declared.term.Term.{Term}
use Rattle.spx_term.specs.declared.term.Term.TheVariants.{Number, Variable, Infix}
use Rattle.spx_term.specs.Sorts.{both, sort_of_op, sort_step, sort_of}
use Rattle.spx_term.specs.Values.{Types}
use Rattle.spx_term.proofs.Terms.{fold-Number, fold-Variable, fold-Infix}
use Rattle.spx_kernel.specs.Sequents.{Sorted}
use Rattle.spx_examples.specs.LinearExamples.{integer_s}
use Rattle.spx_examples.specs.ScriptExamples.{sequent, twice_n, after_loop}

module _ (types : Types) where
  abbrev Has : Term → Sort → Type 0
  Has t s = sort_of types t ≡ Some s

  number_has : (n : ℤ) → Has (Number n) Integer
  number_has n = fold-Number (sort_step types) n

  name_has : (name : Name) → Has (Variable name) name.sort
  name_has name = fold-Variable (sort_step types) name

  infix_has : (o : TermOp) (a b : Term) {s : Sort} → Has a Integer → Has b Integer → sort_of_op o Integer Integer ≡ Some s → Has (Infix o a b) s
  infix_has o a b p q is = fold-Infix (sort_step types) o a b ∙ ap₂ (both (sort_of_op o)) p q ∙ is

  -- a comparison of the value of a variable with a number
  bounds : (o : TermOp) (name : Name) (n : ℤ) → name.sort ≡ Integer → sort_of_op o Integer Integer ≡ Some Boolean → Has (Infix o (Variable name) (Number n)) Boolean
  bounds o name n p is = infix_has o _ _ (name_has name ∙ ap Some p) (number_has n) is

  -- a comparison of S with `2 * N`
  compared : (o : TermOp) → sort_of_op o Integer Integer ≡ Some Boolean → Has (Infix o integer_s twice_n) Boolean
  unfolding sort_of_op
  compared o is = infix_has o _ _ (name_has _) (infix_has _ _ _ (number_has _) (name_has _) refl) is

  -- a term is a truth value
  abbrev IsTruth : Term → Type 0
  IsTruth h = Has h Boolean

  -- the first of several, and the others
  pair : {A B : Type 0} → A → B → A × B
  pair a b = (a, b)

  -- all hypotheses, in order
  hyps_sorted : AllByRecursion IsTruth after_loop
  unfolding sort_of_op
  hyps_sorted =
      pair (bounds _ _ _ refl refl) (pair (bounds _ _ _ refl refl) (pair (bounds _ _ _ refl refl) (pair (bounds _ _ _ refl refl)
      (pair (bounds _ _ _ refl refl) (pair (bounds _ _ _ refl refl) (pair (bounds _ _ _ refl refl)
      (pair (infix_has _ _ _ (name_has _) (name_has _) refl) (pair (infix_has _ _ _ (number_has _) (name_has _) refl) (pair (bounds _ _ _ refl refl)
      (pair (infix_has _ _ _ (name_has _) (infix_has _ _ _ (number_has _) (name_has _) refl) refl) (pair (infix_has _ _ _ (name_has _) (name_has _) refl) tt)))))))))))

  -- each comparison of S with `2 * N` as the goal
  pub sorted : (o : TermOp) → sort_of_op o Integer Integer ≡ Some Boolean → Sorted types (sequent after_loop (Infix o integer_s twice_n))
  sorted o is = (hyps_sorted, compared o is)
