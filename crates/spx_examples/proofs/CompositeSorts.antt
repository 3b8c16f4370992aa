-- The sorts of terms over arrays, records and quantifiers.
use Rattle.std.proofs.Common.{◌≡◌, ℕ, ℤ, pos, Bool, true, false, ◌&&◌, List, [], ◌∷◌, refl, ap, ap₂, ◌∙◌, Option, Some, None}
use Rattle.std.specs.Prelude.{slice_get}
use Rattle.std.proofs.lemmas.Bool.{false_from_ne_true}
use Rattle.spx_term.specs.declared.term.Name.{Name}
use Rattle.spx_term.specs.declared.term.Sort.{Sort}
use Rattle.spx_term.specs.declared.term.Sort.TheVariants.{Integer, Boolean, Composite}
use Rattle.spx_term.specs.declared.term.Component.TheVariants as component
use Rattle.spx_term.specs.declared.term.TermOp.{TermOp}
use Rattle.spx_term.specs.declared.term.UnaryOp.{UnaryOp}
use Rattle.spx_term.specs.declared.term.BinaryOp.{BinaryOp}
use Rattle.spx_term.specs.declared.term.TernaryOp.{TernaryOp}
use Rattle.spx_term.specs.declared.term.TernaryOp.TheVariants as ternary
use Rattle.spx_term.specs.declared.term.Quantifier.{Quantifier}
use Rattle.spx_term.specs.declared.term.Term.{Term}
use Rattle.spx_term.specs.declared.term.Term.TheVariants.{Number, Truth, Variable, Blank, Infix, Unary, Binary, Ternary}
use Rattle.spx_term.specs.declared.value.Shape.{Shape}
use Rattle.spx_term.specs.declared.value.Shape.TheVariants as shape
use Rattle.spx_term.specs.Equality.{same_shape, same_sort}
use Rattle.spx_term.specs.Sorts.{asked, sort_of_layer, sort_of_shape, element_shape_in, element_shape, field_shape_in, field_shape, takes, element_takes, field_takes, is_component, is_array, is_field, sort_of_op, sort_of_unary, sort_of_binary, sort_of_ternary, one, both, three, sort_step, sort_of}
use Rattle.spx_term.proofs.Equality.{same_shape-Decides, same_sort-Decides}
use Rattle.spx_term.proofs.Terms.{fold-Number, fold-Truth, fold-Variable, fold-Blank, fold-Infix, fold-Unary, fold-Binary, fold-Ternary}
use Rattle.spx_examples.proofs.CompositeValues.{zero_in, zeros_in}
use Rattle.spx_examples.specs.CompositeExamples.{types, digit, digit_shape, numbers_shape, numbers, field_f, field_g, array_f, digit_g, at, with_at, aggregate, others_t, number, digit_of, array_of, with_in, one_and_two, in_t, in_q, at_least, at_most, is, bound_k}

-- ---- the sort of a term, from the sorts of its parts

abbrev Has : Term → Sort → Type 0
Has t s = sort_of types t ≡ Some s

pub number_has : (n : ℤ) → Has (Number n) Integer
number_has n = fold-Number (sort_step types) n

pub truth_has : (b : Bool) → Has (Truth b) Boolean
truth_has b = fold-Truth (sort_step types) b

pub variable_has : (name : Name) → Has (Variable name) name.sort
variable_has name = fold-Variable (sort_step types) name

pub blank_has : (id : ℕ) → Has (Blank id) (Composite id)
blank_has id = fold-Blank (sort_step types) id

pub infix_has : (o : TermOp) (a b : Term) {m n : Sort} {r : Option Sort} → Has a m → Has b n → sort_of_op o m n ≡ r → sort_of types (Infix o a b) ≡ r
infix_has o a b p q is = fold-Infix (sort_step types) o a b ∙ ap₂ (both (sort_of_op o)) p q ∙ is

pub unary_has : (o : UnaryOp) (a : Term) {m : Sort} {r : Option Sort} → Has a m → sort_of_unary types o m ≡ r → sort_of types (Unary o a) ≡ r
unary_has o a p is = fold-Unary (sort_step types) o a ∙ ap (one (sort_of_unary types o)) p ∙ is

pub binary_has : (o : BinaryOp) (a b : Term) {m n : Sort} {r : Option Sort} → Has a m → Has b n → sort_of_binary types o m n ≡ r → sort_of types (Binary o a b) ≡ r
binary_has o a b p q is = fold-Binary (sort_step types) o a b ∙ ap₂ (both (sort_of_binary types o)) p q ∙ is

pub ternary_has : (o : TernaryOp) (a b c : Term) {k m n : Sort} {r : Option Sort} → Has a k → Has b m → Has c n → sort_of_ternary types o k m n ≡ r → sort_of types (Ternary o a b c) ≡ r
ternary_has o a b c p q s is = fold-Ternary (sort_step types) o a b c ∙ (λ i. three (sort_of_ternary types o) (p i) (q i) (s i)) ∙ is

pub ask : (s : Sort) {test answer : Bool} → test ≡ answer → asked test s ≡ asked answer s
ask s h = ap (λ b. asked b s) h

-- ---- what the types look like

both_true : {a b : Bool} → a ≡ true → b ≡ true → (a && b) ≡ true
both_true p q = ap₂ ◌&&◌ p q

itself : (s : Shape) → same_shape s s ≡ true
itself s = (same_shape-Decides s s).1 refl

digit_sort : sort_of_shape digit_shape ≡ Integer
unfolding sort_of_shape
digit_sort = ap sort_of_layer (shape.outs-Integer (pos 0) (pos 9))

numbers_sort : sort_of_shape numbers_shape ≡ Composite 0
unfolding sort_of_shape
numbers_sort = ap sort_of_layer (shape.outs-Array 0 (pos 1) (pos 3) digit_shape)

element_look : element_shape numbers_shape ≡ Some digit_shape
unfolding element_shape
element_look = ap element_shape_in (shape.outs-Array 0 (pos 1) (pos 3) digit_shape)

field_look : (id : ℕ) (fields : List Shape) (k : ℕ) → field_shape (shape.Record id fields) k ≡ slice_get fields k
unfolding field_shape
field_look id fields k = ap (λ layer. field_shape_in layer k) (shape.outs-Record id fields)

same_integer : same_sort (sort_of_shape digit_shape) Integer ≡ true
same_integer = ap (λ s. same_sort s Integer) digit_sort ∙ (same_sort-Decides Integer Integer).1 refl

same_array : same_sort (sort_of_shape numbers_shape) (Composite 0) ≡ true
same_array = ap (λ s. same_sort s (Composite 0)) numbers_sort ∙ (same_sort-Decides (Composite 0) (Composite 0)).1 refl

digit_said : is_component types (Some digit_shape) digit ≡ true
digit_said = both_true (itself digit_shape) (both_true same_integer zero_in)

pub array_said : is_array types numbers ≡ true
array_said = both_true (itself numbers_shape) (ap (λ o. is_component types o digit) element_look ∙ digit_said)

digit_taken : takes types (Some digit_shape) Integer ≡ true
digit_taken = both_true same_integer refl

element_taken : element_takes types 0 Integer ≡ true
element_taken = ap (λ o. takes types o Integer) element_look ∙ digit_taken

no_truth : same_sort Integer Boolean ≡ false
no_truth = false_from_ne_true (same_sort Integer Boolean) (λ h. let e = (same_sort-Decides Integer Boolean).0 h in cc)

element_refused : element_takes types 0 Boolean ≡ false
element_refused = ap (λ o. takes types o Boolean) element_look ∙ ap (λ s. same_sort s Boolean && true) digit_sort ∙ ap (λ b. b && true) no_truth

-- ---- the sorts of the operations

pub element_has : (a i : Term) → Has a (Composite 0) → Has i Integer → Has (at a i) Integer
unfolding sort_of_binary
element_has a i p q = binary_has _ a i p q (ask Integer array_said)

pub update_has : (a i e : Term) → Has a (Composite 0) → Has i Integer → Has e Integer → Has (with_at a i e) (Composite 0)
unfolding sort_of_ternary
update_has a i e p q s = ternary_has _ a i e p q s (ask (Composite 0) element_taken)

pub update_refused : (a i e : Term) → Has a (Composite 0) → Has i Integer → Has e Boolean → sort_of types (with_at a i e) ≡ None
unfolding sort_of_ternary
update_refused a i e p q s = ternary_has _ a i e p q s (ask (Composite 0) element_refused)

pub range_has : (t e : Term) (low high : ℕ) → Has t (Composite 0) → Has e Integer → Has (aggregate t low high e) (Composite 0)
unfolding sort_of_binary
range_has t e low high p q = binary_has _ t e p q (ask (Composite 0) element_taken)

pub others_has : (e : Term) → Has e Integer → Has (others_t e) (Composite 0)
unfolding sort_of_unary
others_has e p = unary_has _ e p (ask (Composite 0) element_taken)

-- F of the type P
pub digit_has : (r : Term) → Has r (Composite 1) → Has (digit_of r field_f) Integer
unfolding sort_of_unary
digit_has r p = unary_has _ r p (ask Integer (ap (λ o. is_component types o digit) (field_look 1 (digit_shape ∷ digit_shape ∷ []) 0) ∙ digit_said))

field_f_taken : field_takes types field_f Integer ≡ true
field_f_taken = ap (λ o. takes types o Integer) (field_look 1 (digit_shape ∷ digit_shape ∷ []) 0) ∙ digit_taken

field_g_taken : field_takes types field_g Integer ≡ true
field_g_taken = ap (λ o. takes types o Integer) (field_look 1 (digit_shape ∷ digit_shape ∷ []) 1) ∙ digit_taken

pub with_f_has : (r e : Term) → Has r (Composite 1) → Has e Integer → Has (with_in r field_f e) (Composite 1)
unfolding sort_of_binary
with_f_has r e p q = binary_has _ r e p q (ask (Composite 1) field_f_taken)

pub pair_has : Has one_and_two (Composite 1)
unfolding sort_of_binary
pair_has = binary_has _ _ _ (binary_has _ _ _ (blank_has 1) (number_has (pos 2)) (ask (Composite 1) field_g_taken)) (number_has (pos 1)) (ask (Composite 1) field_f_taken)

-- F and G of the type Q
pub part_said : is_field types array_f (component.Composite 0) ≡ true
part_said = ap (λ o. is_component types o (component.Composite 0)) (field_look 2 (numbers_shape ∷ digit_shape ∷ []) 0) ∙ both_true (itself numbers_shape) (both_true same_array zeros_in)

pub part_has : (n : Term) → Has n (Composite 2) → Has (array_of n) (Composite 0)
unfolding sort_of_unary
part_has n p = unary_has _ n p (ask (Composite 0) part_said)

pub with_part_has : (n e : Term) → Has n (Composite 2) → Has e (Composite 0) → Has (with_in n array_f e) (Composite 2)
unfolding sort_of_binary
with_part_has n e p q =
    binary_has _ n e p q (ask (Composite 2) (ap (λ o. takes types o (Composite 0)) (field_look 2 (numbers_shape ∷ digit_shape ∷ []) 0) ∙ both_true same_array (itself numbers_shape)))

pub with_digit_has : (n e : Term) → Has n (Composite 2) → Has e Integer → Has (with_in n digit_g e) (Composite 2)
unfolding sort_of_binary
with_digit_has n e p q =
    binary_has _ n e p q (ask (Composite 2) (ap (λ o. takes types o Integer) (field_look 2 (numbers_shape ∷ digit_shape ∷ []) 1) ∙ digit_taken))

pub in_t_has : (a : Term) → Has a (Composite 0) → Has (in_t a) Boolean
unfolding sort_of_unary
in_t_has a p = unary_has _ a p refl

pub in_q_has : (n : Term) → Has n (Composite 2) → Has (in_q n) Boolean
unfolding sort_of_unary
in_q_has n p = unary_has _ n p refl

pub in_t_refused : (r : Term) → Has r (Composite 1) → sort_of types (in_t r) ≡ None
unfolding sort_of_unary
in_t_refused r p = unary_has _ r p refl

pub element_refuses_truth : (a i : Term) → Has a (Composite 0) → Has i Boolean → sort_of types (at a i) ≡ None
unfolding sort_of_binary
element_refuses_truth a i p q = binary_has _ a i p q refl

pub element_refuses_record : (a i : Term) → Has a (Composite 1) → Has i Integer → sort_of types (at a i) ≡ None
unfolding sort_of_binary
element_refuses_record a i p q = binary_has _ a i p q refl

pub least_has : (a : Term) (n : ℕ) → Has a Integer → Has (at_least a n) Boolean
unfolding sort_of_op
least_has a n p = infix_has _ a (number n) p (number_has (pos n)) refl

pub most_has : (a : Term) (n : ℕ) → Has a Integer → Has (at_most a n) Boolean
unfolding sort_of_op
most_has a n p = infix_has _ a (number n) p (number_has (pos n)) refl

pub is_has : (a : Term) (n : ℕ) → Has a Integer → Has (is a n) Boolean
unfolding sort_of_op
is_has a n p = infix_has _ a (number n) p (number_has (pos n)) refl

pub quantified_has : (q : Quantifier) (low high p : Term) → Has low Integer → Has high Integer → Has p Boolean → Has (Ternary (ternary.Quantified q bound_k) low high p) Boolean
unfolding sort_of_ternary
quantified_has q low high p l h s = ternary_has _ low high p l h s refl
