-- Which terms are comparisons, and which are atoms.
use Rattle.std.proofs.Common.{◌≡◌, ℤ, Some, false, refl}
use Rattle.spx_term.specs.declared.term.TermOp.{TermOp}
use Rattle.spx_term.specs.declared.term.TermPrefix.{TermPrefix}
use Rattle.spx_term.specs.declared.term.Term.{Term}
use Rattle.spx_term.specs.declared.term.Term.TheVariants.{Number, Prefix, Infix}
use Rattle.spx_term.proofs.Terms.{Cases, induct}
use Rattle.spx_linear.specs.Forms.{atom_form}
use Rattle.spx_linear.specs.Linear.{form_of, form_of-Truth, form_of-Variable, form_of-Blank, form_of-Unary, form_of-Binary, form_of-Ternary, is_comparison, is_comparison-Number, is_comparison-Truth, is_comparison-Variable, is_comparison-Blank, is_comparison-Prefix, is_comparison-Unary, is_comparison-Binary, is_comparison-Ternary}

abbrev IsNoInfix : Term → Type 0
IsNoInfix t = (o : TermOp) (a b : Term) → (t ≡ Infix o a b) → ⊥

abbrev Only : Term → Type 0
Only t = IsNoInfix t → is_comparison t ≡ false

only_cases : Cases Only
only_cases = record {
  number = λ n no. is_comparison-Number n;
  truth = λ b no. is_comparison-Truth b;
  variable = λ name no. is_comparison-Variable name;
  prefix = λ o a p no. is_comparison-Prefix o a;
  «infix» = λ o a b p q no. absurd (no o a b refl);
  blank = λ id no. is_comparison-Blank id;
  unary = λ o a p no. is_comparison-Unary o a;
  binary = λ o a b p q no. is_comparison-Binary o a b;
  ternary = λ o a b c p q r no. is_comparison-Ternary o a b c;
}

-- a comparison is an operation between two operands
pub only_infix : (t : Term) → Only t
only_infix = induct Only only_cases

abbrev Other : Term → Type 0
Other t = ((n : ℤ) → (t ≡ Number n) → ⊥) → ((o : TermPrefix) (a : Term) → (t ≡ Prefix o a) → ⊥) → IsNoInfix t → form_of t ≡ Some (atom_form t)

other_cases : Cases Other
other_cases = record {
  number = λ n no_number no_prefix no_infix. absurd (no_number n refl);
  truth = λ b no_number no_prefix no_infix. form_of-Truth b;
  variable = λ name no_number no_prefix no_infix. form_of-Variable name;
  prefix = λ o a p no_number no_prefix no_infix. absurd (no_prefix o a refl);
  «infix» = λ o a b p q no_number no_prefix no_infix. absurd (no_infix o a b refl);
  blank = λ id no_number no_prefix no_infix. form_of-Blank id;
  unary = λ o a p no_number no_prefix no_infix. form_of-Unary o a;
  binary = λ o a b p q no_number no_prefix no_infix. form_of-Binary o a b;
  ternary = λ o a b c p q r no_number no_prefix no_infix. form_of-Ternary o a b c;
}

-- a term that is no literal and no operation on numbers is an atom
pub other_is_atom : (t : Term) → Other t
other_is_atom = induct Other other_cases
