-- Which sequents need no proof, from what their terms fold to.
use Rattle.std.proofs.Common.{◌≡◌, ℕ, true, false, ◌||◌, List, [], ◌∷◌, map, refl, ap, ap₂}
use denote.Hole.Carrier.{hidden, out, fold, shown}
use denote.Hole.Rolled.{depth}
use Rattle.spx_term.specs.declared.term.Name.{Name}
use Rattle.spx_term.specs.declared.term.FieldName.{FieldName}
use Rattle.spx_term.specs.declared.term.TermOp.{TermOp}
use Rattle.spx_term.specs.declared.term.TermOp.TheVariants as op
use Rattle.spx_term.specs.declared.term.Term.{Term}
use Rattle.spx_term.specs.declared.term.Term as forms
use Rattle.spx_term.specs.declared.term.Term.TheBlock as block
use Rattle.spx_term.specs.declared.term.Term.TheVariants.{Truth, Variable, Infix}
use Rattle.spx_term.specs.Equality.{same_by, same_term}
use Rattle.spx_term.specs.Folding.{folded, simplified, simplified_unary, simplified_binary, simplified_ternary, taken, before_literal}
use Rattle.spx_term.specs.Intervals.{allowed, bounds, bounded, interval, is_said_in, is_typed, mirrored, reads_unary, reads_binary, structural_unary, structural_binary}
use Rattle.spx_term.specs.Plain.{closes, is_among, is_plain, joined, settled, Plain}
use Rattle.spx_examples.proofs.CompositeFolding.{number_to, variable_to, infix_to, unary_to, binary_to, ternary_to}
use Rattle.spx_examples.specs.CompositeExamples.{number, at, digit_of, array_of, array_a, record_r, nested_n, integer_x, field_f, field_g, digit_g, in_t, in_q, at_least, at_most, is, x_in_range, updated_is_read}

-- the terms fold to themselves
abbrev Stays : Term → Type 0
Stays t = folded t ≡ t

-- whether the sequent needs no proof, where folding leaves it as it is
closed_is : (hyps : List Term) (goal : Term) → map folded hyps ≡ hyps → Stays goal → closes hyps goal ≡ (is_among hyps (Truth false) || is_plain hyps goal)
unfolding closes
closed_is hyps goal hyps_are goal_is = ap₂ (λ hs g. is_among hs (Truth false) || is_plain hs g) hyps_are goal_is

one : {a : Term} → Stays a → map folded (a ∷ []) ≡ a ∷ []
one p = ap (λ (s : Term). s ∷ []) p

two : {a b : Term} → Stays a → Stays b → map folded (a ∷ b ∷ []) ≡ a ∷ b ∷ []
two p q = ap₂ (λ (s t : Term). s ∷ t ∷ []) p q

-- ---- the terms of the laws fold to themselves

-- `a[X]`
element_stays : (a : Term) → Stays a → Stays (at a integer_x)
unfolding simplified_binary
element_stays a p = binary_to _ _ _ p variable_to refl

part_stays : Stays (array_of nested_n)
unfolding simplified_unary taken
part_stays = unary_to _ _ variable_to refl

in_stays : (a : Term) → Stays a → Stays (in_t a)
unfolding simplified_unary
in_stays a p = unary_to _ _ p refl

whole_stays : Stays (in_q nested_n)
unfolding simplified_unary
whole_stays = unary_to _ _ variable_to refl

element_least : (a : Term) (n : ℕ) → Stays a → Stays (at_least (at a integer_x) n)
unfolding simplified before_literal
element_least a n p = infix_to _ _ _ (element_stays a p) number_to refl

field_stays : (r : Name) (f : FieldName) → Stays (digit_of (Variable r) f)
unfolding simplified_unary taken
field_stays r f = unary_to _ _ variable_to refl

-- a comparison of a term that is no literal with a number
compared : (o : TermOp) (a : Term) (n : ℕ) → Stays a → simplified o a (number n) ≡ Infix o a (number n) → Stays (Infix o a (number n))
compared o a n p e = infix_to _ _ _ p number_to e

updated_stays : Stays updated_is_read
unfolding simplified before_literal simplified_binary simplified_ternary
updated_stays = infix_to _ _ _ (binary_to _ _ _ (ternary_to _ _ _ _ variable_to variable_to number_to refl) variable_to refl) number_to refl

range_stays : map folded x_in_range ≡ x_in_range
unfolding simplified before_literal
range_stays = two (compared op.GreaterOrEqual integer_x 1 variable_to refl) (compared op.LessOrEqual integer_x 3 variable_to refl)

equal_three : Stays (is (digit_of record_r field_f) 3)
unfolding simplified before_literal
equal_three = compared op.Equal (digit_of record_r field_f) 3 (field_stays _ field_f) refl

most_five : (f : FieldName) → Stays (at_most (digit_of record_r f) 5)
unfolding simplified before_literal
most_five f = compared op.LessOrEqual (digit_of record_r f) 5 (field_stays _ f) refl

least_zero : Stays (at_least (digit_of nested_n digit_g) 0)
unfolding simplified before_literal
least_zero = compared op.GreaterOrEqual (digit_of nested_n digit_g) 0 (field_stays _ digit_g) refl

-- ---- the answers of the test

abbrev Answers : Type 0
Answers =
    (closes (in_t array_a ∷ []) (at_least (at array_a integer_x) 0) ≡ true)
    × (closes [] (at_least (at array_a integer_x) 0) ≡ false)
    × (closes (in_t array_a ∷ []) (at_least (at array_a integer_x) 1) ≡ false)
    × (closes (is (digit_of record_r field_f) 3 ∷ []) (at_most (digit_of record_r field_f) 5) ≡ true)
    × (closes (is (digit_of record_r field_f) 3 ∷ []) (at_most (digit_of record_r field_g) 5) ≡ false)
    × (closes (in_q nested_n ∷ []) (at_least (at (array_of nested_n) integer_x) 0) ≡ true)
    × (closes (in_t (array_of nested_n) ∷ []) (at_least (at (array_of nested_n) integer_x) 0) ≡ true)
    × (closes (in_t (array_of nested_n) ∷ []) (at_least (at array_a integer_x) 0) ≡ false)
    × (closes (in_t array_a ∷ []) (at_least (at (array_of nested_n) integer_x) 0) ≡ false)
    × (closes (in_t (array_of nested_n) ∷ []) (at_least (digit_of nested_n digit_g) 0) ≡ false)
    × (closes x_in_range updated_is_read ≡ false)

pub answers : Answers
unfolding allowed bounds bounded interval is_said_in is_typed mirrored reads_unary reads_binary structural_unary structural_binary is_plain joined settled same_term same_by hidden block.hidden-the_row-Term-0 forms.out-Term out block.the_depth depth fold block.shown-the_row-Term-0 shown
answers =
    let in_a = one (in_stays array_a variable_to) in
    let in_part = one (in_stays (array_of nested_n) part_stays) in
    let three = one equal_three in (
      closed_is _ _ in_a (element_least array_a 0 variable_to),
      closed_is _ _ refl (element_least array_a 0 variable_to),
      closed_is _ _ in_a (element_least array_a 1 variable_to),
      closed_is _ _ three (most_five field_f),
      closed_is _ _ three (most_five field_g),
      closed_is _ _ (one whole_stays) (element_least (array_of nested_n) 0 part_stays),
      closed_is _ _ in_part (element_least (array_of nested_n) 0 part_stays),
      closed_is _ _ in_part (element_least array_a 0 variable_to),
      closed_is _ _ in_a (element_least (array_of nested_n) 0 part_stays),
      closed_is _ _ in_part least_zero,
      closed_is _ _ range_stays updated_stays,
    )

pub closed : (hyps : List Term) (goal : Term) → closes hyps goal ≡ true → Plain hyps goal
unfolding Plain
closed hyps goal h = h

pub open_is : (hyps : List Term) (goal : Term) → closes hyps goal ≡ false → ¬ Plain hyps goal
unfolding Plain
open_is hyps goal none plain = absurd (let e : closes hyps goal ≡ true = plain in let f = none in cc)
