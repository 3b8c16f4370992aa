-- Elements of arrays in programs: their values, checks and reads.
use Rattle.std.proofs.Common.{◌≡◌, ℕ, zero, suc, ℤ, pos, true, false, ◌&&◌, List, [], ◌∷◌, ◌++◌, Option, Some, None, Ok, refl, ap, ap₂, subst, ◌∙◌, arith}
use Rattle.std.specs.List.{filter_map}
use denote.Hole.Carrier.{hidden}
use Rattle.spx_text.specs.declared.place.Place.{Place}
use Rattle.spx_core.specs.declared.entity.TheConstants.{INTEGER, INTEGER_FIRST, INTEGER_LAST}
use Rattle.spx_core.specs.declared.entity.VarId.{VarId}
use Rattle.spx_core.specs.declared.expression.CoreExpr.{CoreExpr}
use Rattle.spx_core.specs.declared.expression.CoreExpr.TheBlock.{hidden-the_row-CoreExpr-0}
use Rattle.spx_core.specs.declared.expression.CoreExpr.TheVariants.{Name, Number}
use Rattle.spx_core.specs.declared.name.CoreName.{CoreName}
use Rattle.spx_core.specs.declared.program.Program.{Program}
use Rattle.spx_core.specs.declared.program.TypeRow.{TypeRow}
use Rattle.spx_core.specs.declared.rule.ExprType.TheVariants.{Universal}
use Rattle.spx_core.specs.declared.rule.Typing.{Typing}
use Rattle.spx_core.specs.declared.subprogram.Sub.{Sub}
use Rattle.spx_core.specs.Effects.{assign, effect, read_of}
use Rattle.spx_core.specs.Judged.{Judged, ◌>>=◌, element, expr_step, judged, named_value, typing}
use Rattle.spx_core.specs.Parts.{IsMade, TypesAreMade}
use Rattle.spx_core.specs.Places.{place_in, place_of}
use Rattle.spx_core.specs.Reads.{names_step}
use Rattle.spx_core.proofs.Callers.Expressions.{fold-Element, fold-Name, fold-Number}
use Rattle.spx_term.specs.declared.condition.CondKind.TheVariants as kind
use Rattle.spx_term.specs.declared.term.Component.TheVariants as component
use Rattle.spx_term.specs.declared.term.Term.{Term}
use Rattle.spx_term.specs.declared.term.Term.TheVariants as term
use Rattle.spx_term.specs.declared.term.TernaryOp.TheVariants as ternary
use Rattle.spx_term.specs.declared.term.UnaryOp.TheVariants as unary
use Rattle.spx_term.specs.declared.value.Shape.{Shape, Shape-F, map-Shape, fold_out-Shape}
use Rattle.spx_term.specs.declared.value.Shape.TheVariants as shape
use Rattle.spx_term.specs.declared.value.Value.{Value, Value-F}
use Rattle.spx_term.specs.declared.value.Value.TheVariants as value
use Rattle.spx_term.specs.Meaning.{as_number, value_of_binary, value_of_unary}
use Rattle.spx_term.specs.Parts.{part_of, with_end, with_part, indexed, selected}
use Rattle.spx_term.specs.Steps.{Tree, Assign, Assume, check}
use Rattle.spx_term.specs.Tables.{types_in}
use Rattle.spx_term.specs.Values.{Types, element_at, element_in, elements_pass, field_at, field_in, first_of, first_step, first_value as first_in_shape, is_in as is_in_shape, number_passes, with_elements, with_elements_in, with_field, with_field_in, within}
use Rattle.spx_term.proofs.ValueLaws.{is_in-layer}
use Rattle.spx_meaning.specs.Annotations.{meant, meant_step, named_meaning}
use Rattle.spx_meaning.specs.declared.bad.BadKind.TheVariants as bad
use Rattle.spx_meaning.specs.Evaluation.{Answer, Fails, Gives, eval, eval-Element, eval-Selected, in_index, in_part, read, with_value}
use Rattle.spx_meaning.specs.Frames.{Frame, around}
use Rattle.spx_meaning.specs.Parts.{element_step, element_value, field_step, field_value}
use Rattle.spx_meaning.specs.Runs.{Bad, Ended, Outcome, run, use_value}
use Rattle.spx_meaning.specs.Stores.{Store, component_of, is_in, put, types_of}
use Rattle.spx_formula.specs.Goals.{in_range}
use Rattle.spx_formula.specs.Terms.{now, now_term, term_of}
use Rattle.spx_paths.specs.Checks.{checks, checks-Name}
use Rattle.spx_paths.specs.Walks.{set_tree, walk}
use Rattle.spx_examples.specs.CompositeExamples.{types, digit, digits_of, field_g, numbers_of}
use Rattle.spx_examples.specs.Increment.{place}
use Rattle.spx_examples.specs.PartPrograms.{a, a_at, array_type, e, e_at, element_of_a, endless_program, field_of_r, i, i_at, indexing, number, pairs, pairs_of, part_program, r_at, selection, setting, setting_field, to_element, to_second_g, values}
use Rattle.spx_examples.specs.PartPrograms as in_program
use Rattle.spx_examples.proofs.Computing.{checks_are}
use Rattle.spx_examples.proofs.Declarations.{term_of_name}
use Rattle.spx_examples.proofs.Evaluations.{eval_name}
use Rattle.spx_examples.proofs.PartValues.{put_second}

-- ---- `A (I)`

-- the element, where A and I are read as these and I stands there
abbrev element_from : Frame → Place → (of_a of_i : Answer) → Answer
element_from f at of_a of_i = with_value of_a (λ u. with_value of_i (λ k. in_index indexing at k (Gives (element_value (types_of f.program) indexing u k))))

eval_element : (f : Frame) (n : ℕ) (s : Store) → eval f n s element_of_a ≡ element_from f (place 6 7) (read s (place 6 4) (Some a)) (read s (place 6 7) (Some i))
eval_element f n s =
    eval-Element f n s (Name (a_at 4)) (place 6 6) (Name (i_at 7)) indexing
    ∙ ap₂ (element_from f _) (eval_name f n s (a_at 4)) (eval_name f n s (i_at 7))
    ∙ ap (λ at. element_from f at (read s (place 6 4) (Some a)) (read s (place 6 7) (Some i))) (fold-Name place_in (i_at 7))

pub inside : (f : Frame) (n : ℕ) → eval f n (values (number 2) None (Some (numbers_of 4 5 6))) element_of_a ≡ Gives (value.Number (pos 5))
unfolding value_of_binary element_at
inside f n =
    eval_element f n (values (number 2) None (Some (numbers_of 4 5 6)))
    ∙ ap (λ out. Gives (element_in (first_of (types_of f.program) (component_of INTEGER)) (pos 2) out)) (value.outs-Elements (pos 1) (value.Number (pos 4) ∷ value.Number (pos 5) ∷ value.Number (pos 6) ∷ []))

pub below : (f : Frame) (n : ℕ) → eval f n (values (number 0) None (Some (numbers_of 4 5 6))) element_of_a ≡ Fails bad.Index (place 6 7)
below f n = eval_element f n (values (number 0) None (Some (numbers_of 4 5 6)))

pub above : (f : Frame) (n : ℕ) → eval f n (values (number 4) None (Some (numbers_of 4 5 6))) element_of_a ≡ Fails bad.Index (place 6 7)
above f n = eval_element f n (values (number 4) None (Some (numbers_of 4 5 6)))

pub checks_index : (p : Program) (entered : VarId → Term) (rest : Tree) → checks p entered [] element_of_a rest ≡ check kind.Index (place 6 7) (in_range (pos 1) (pos 3) (now_term p i)) rest
unfolding hidden-the_row-CoreExpr-0 hidden
checks_index p entered rest = checks_are p entered [] element_of_a rest

-- ---- `A (I) := E`

-- what becomes of it, where I, E and A are read as these, and I and E stand there
abbrev setting_from : Frame → Store → (at_i at_e : Place) → (of_i of_e : Answer) → Outcome
setting_from f s at_i at_e of_i of_e =
    use_value
    (with_value of_i (λ k.
    in_index indexing at_i k
    (with_value of_e (λ x.
    in_part INTEGER at_e x
    (with_value (read s (place 6 4) (Some a)) (λ old. Gives (with_end (types_of f.program) (element_step indexing (as_number k) ∷ []) old x)))))))
    (λ x. Ended (put s a (Some x)))

set_is : (f : Frame) (n : ℕ) (s : Store) → run f n s setting ≡ setting_from f s (place 6 7) (place 6 13) (read s (place 6 7) (Some i)) (read s (place 6 13) (Some e))
set_is f n s =
    ap₂ (setting_from f s _ _) (eval_name f n s (i_at 7)) (eval_name f n s (e_at 13))
    ∙ ap₂ (λ at_i at_e. setting_from f s at_i at_e (read s (place 6 7) (Some i)) (read s (place 6 13) (Some e))) (fold-Name place_in (i_at 7)) (fold-Name place_in (e_at 13))

pub puts : (f : Frame) (n : ℕ) → run f n (values (number 2) (number 7) (Some (numbers_of 4 5 6))) setting ≡ Ended (values (number 2) (number 7) (Some (numbers_of 4 7 6)))
puts f n = set_is f n (values (number 2) (number 7) (Some (numbers_of 4 5 6))) ∙ ap (λ x. Ended (values (number 2) (number 7) (Some x))) (put_second 4 5 6 7)

pub unset : (f : Frame) (n : ℕ) → run f n (values (number 2) (number 7) None) setting ≡ Bad bad.Unset (place 6 4)
unset f n = set_is f n (values (number 2) (number 7) None)

pub index_first : (f : Frame) (n : ℕ) → run f n (values (number 4) None None) setting ≡ Bad bad.Index (place 6 7)
index_first f n = set_is f n (values (number 4) None None)

pub then_right : (f : Frame) (n : ℕ) → run f n (values (number 2) None None) setting ≡ Bad bad.Unset (place 6 13)
then_right f n = set_is f n (values (number 2) None None)

pub then_range : (f : Frame) (n : ℕ) → run f n (values (number 2) (number 2147483648) None) setting ≡ Bad bad.Range (place 6 13)
then_range f n = set_is f n (values (number 2) (number 2147483648) None)

pub effect_is : effect setting ≡ assign (Some a) ((place 6 7, i) ∷ (place 6 13, e) ∷ (place 6 4, a) ∷ []) (place 6 4)
effect_is =
    ap₂ (λ (way right : List CoreName). assign (Some a) (filter_map read_of ((way ++ []) ++ (right ++ a_at 4 ∷ []))) (place 6 4))
    (fold-Name names_step (i_at 7)) (fold-Name names_step (e_at 13))

-- ---- a record in an array

items : List Value
items = digits_of 1 2 ∷ digits_of 3 4 ∷ []

second_in : part_of types (indexed pairs (pos 2)) (pairs_of (digits_of 1 2) (digits_of 3 4)) ≡ digits_of 3 4
unfolding value_of_binary element_at items
second_in = ap (element_in (first_of types (component.Composite 1)) (pos 2)) (value.outs-Elements (pos 1) items)

put_g : (k m n : ℕ) → with_part (selected field_g digit) (digits_of k m) (value.Number (pos n)) ≡ digits_of k n
unfolding with_field
put_g k m n = ap (with_field_in 1 (value.Number (pos n)) (digits_of k m)) (value.outs-Fields (value.Number (pos k) ∷ value.Number (pos m) ∷ []))

put_second_pair : with_part (indexed pairs (pos 2)) (pairs_of (digits_of 1 2) (digits_of 3 4)) (digits_of 3 5) ≡ pairs_of (digits_of 1 2) (digits_of 3 5)
unfolding with_elements items
put_second_pair = ap (with_elements_in (pos 2) (pos 2) (digits_of 3 5) (pairs_of (digits_of 1 2) (digits_of 3 4))) (value.outs-Elements (pos 1) items)

pub field_changes : with_end types to_second_g (pairs_of (digits_of 1 2) (digits_of 3 4)) (value.Number (pos 5)) ≡ pairs_of (digits_of 1 2) (digits_of 3 5)
field_changes =
    ap (λ u. with_part (indexed pairs (pos 2)) (pairs_of (digits_of 1 2) (digits_of 3 4)) (with_part (selected field_g digit) u (value.Number (pos 5)))) second_in
    ∙ ap (with_part (indexed pairs (pos 2)) (pairs_of (digits_of 1 2) (digits_of 3 4))) (put_g 3 4 5)
    ∙ put_second_pair

-- ---- the steps of the assignment

module _ (rest : Tree) where
  -- what follows the checks
  abbrev update : (of_i of_e : Term) → Tree
  update of_i of_e =
      Assign (now part_program a) (term.Ternary (ternary.Update 6) (now_term part_program a) of_i of_e) (Assume (term.Unary (unary.In 6) (now_term part_program a)) rest)

  -- the checks of the index, and then of the right side
  abbrev of_value : Place → (of_i of_e : Term) → Tree
  of_value at_e of_i of_e = check kind.Range at_e (in_range INTEGER_FIRST INTEGER_LAST of_e) (update of_i of_e)

  abbrev pub of_index : (at_i at_e : Place) → (of_i of_e : Term) → Tree
  of_index at_i at_e of_i of_e = check kind.Index at_i (in_range (pos 1) (pos 3) of_i) (of_value at_e of_i of_e)

  abbrev term_in : CoreName → Term
  term_in name = term_of part_program (now_term part_program) (Name name)

  steps_are : set_tree part_program to_element (Name (e_at 13)) rest ≡ of_index (place 6 7) (place 6 13) (now_term part_program i) (now_term part_program e)
  steps_are =
      checks-Name part_program (now_term part_program) [] (i_at 7) _
      ∙ ap (check kind.Index (place_of (Name (i_at 7))) (in_range (pos 1) (pos 3) (term_in (i_at 7)))) (checks-Name part_program (now_term part_program) [] (e_at 13) _)
      ∙ ap₂ (λ at_i at_e. of_index at_i at_e (term_in (i_at 7)) (term_in (e_at 13))) (fold-Name place_in (i_at 7)) (fold-Name place_in (e_at 13))
      ∙ ap₂ (of_index (place 6 7) (place 6 13)) (term_of_name part_program (now_term part_program) (i_at 7)) (term_of_name part_program (now_term part_program) (e_at 13))

pub walks : (sub : Sub) (rest leave : ℕ → Tree) (made : ℕ) → walk part_program sub setting rest leave made ≡ of_index (rest made) (place 6 7) (place 6 13) (now_term part_program i) (now_term part_program e)
walks sub rest leave made = steps_are (rest made)

-- ---- what elements are judged to be

-- where the prefix and the index are judged to be these
abbrev pub element_judged : (prefix at : Judged Typing) → Judged Typing
element_judged prefix at = prefix >>= λ t. at >>= λ k. element indexing t k

judged_element : (prefix : CoreName) (at : CoreExpr) → judged (in_program.element_at prefix at) ≡ element_judged (named_value prefix) (judged at)
judged_element prefix at = fold-Element expr_step (Name prefix) (place 6 6) at indexing ∙ ap (λ j. element_judged j (judged at)) (fold-Name expr_step prefix)

pub by_name : (prefix index : CoreName) → judged (in_program.element_at prefix (Name index)) ≡ element_judged (named_value prefix) (named_value index)
by_name prefix index = judged_element prefix (Name index) ∙ ap (element_judged (named_value prefix)) (fold-Name expr_step index)

pub by_number : (prefix : CoreName) (n : ℤ) → judged (in_program.element_at prefix (Number n (place 6 7))) ≡ element_judged (named_value prefix) (Ok (typing Universal (Some n) (place 6 7)))
by_number prefix n = judged_element prefix (Number n (place 6 7)) ∙ ap (element_judged (named_value prefix)) (fold-Number expr_step n (place 6 7))

-- ---- the type of A

abbrev integer_shape : Shape
integer_shape = shape.Integer INTEGER_FIRST INTEGER_LAST

abbrev array_shape : Shape
array_shape = shape.Array 6 (pos 1) (pos 3) integer_shape

pub looks : types_of part_program 6 ≡ array_shape
unfolding types_in
looks = refl

integer_in : (n : ℤ) → is_in_shape true integer_shape (value.Number n) ≡ within true INTEGER_FIRST INTEGER_LAST n
integer_in n =
    is_in-layer true integer_shape (Shape-F.Integer INTEGER_FIRST INTEGER_LAST) (shape.outs-Integer INTEGER_FIRST INTEGER_LAST) (value.Number n)
    ∙ ap (number_passes (within true INTEGER_FIRST INTEGER_LAST)) (value.outs-Number n)

elements_in : (xs : List Value) → is_in (types_of part_program) array_type (value.Elements (pos 1) xs) ≡ elements_pass (pos 1) (pos 3) (is_in_shape true integer_shape) (Value-F.Elements (pos 1) xs)
elements_in xs =
    ap (λ s. is_in_shape true s (value.Elements (pos 1) xs)) looks
    ∙ is_in-layer true array_shape (Shape-F.Array 6 (pos 1) (pos 3) integer_shape) (shape.outs-Array 6 (pos 1) (pos 3) integer_shape) (value.Elements (pos 1) xs)
    ∙ ap (elements_pass (pos 1) (pos 3) (is_in_shape true integer_shape)) (value.outs-Elements (pos 1) xs)

pub three_in : (k m n : ℕ) → is_in (types_of part_program) array_type (numbers_of k m n)
    ≡ (within true INTEGER_FIRST INTEGER_LAST (pos k) && (within true INTEGER_FIRST INTEGER_LAST (pos m) && (within true INTEGER_FIRST INTEGER_LAST (pos n) && true)))
three_in k m n = elements_in (value.Number (pos k) ∷ value.Number (pos m) ∷ value.Number (pos n) ∷ []) ∙ (λ j. integer_in (pos k) j && (integer_in (pos m) j && (integer_in (pos n) j && true)))

pub one_in : is_in (types_of part_program) array_type (value.Elements (pos 1) (value.Number (pos 4) ∷ [])) ≡ false
one_in = elements_in (value.Number (pos 4) ∷ [])

-- ---- annotations

-- what `A (I)` means, where A and I mean these
meant_element : (f : Frame) (s : Store) → meant f s element_of_a ≡ element_value (types_of f.program) indexing (named_meaning f s (a_at 4)) (named_meaning f s (i_at 7))
meant_element f s =
    fold-Element (meant_step f s) (Name (a_at 4)) (place 6 6) (Name (i_at 7)) indexing
    ∙ ap₂ (element_value (types_of f.program) indexing) (fold-Name (meant_step f s) (a_at 4)) (fold-Name (meant_step f s) (i_at 7))

-- the element at an index of an array
there : (types : Types) (xs : List Value) (k : ℕ) → element_value types indexing (value.Elements (pos 1) xs) (value.Number (pos k)) ≡ element_in (first_of types (component_of INTEGER)) (pos k) (Value-F.Elements (pos 1) xs)
unfolding value_of_binary element_at
there types xs k = ap (element_in (first_of types (component_of INTEGER)) (pos k)) (value.outs-Elements (pos 1) xs)

first_integer : first_in_shape integer_shape ≡ value.Number INTEGER_FIRST
first_integer = fold_out-Shape Value first_step integer_shape ∙ ap (λ x. first_step (map-Shape Shape Value first_in_shape x)) (shape.outs-Integer INTEGER_FIRST INTEGER_LAST)

pub meant_set : (f : Frame) → meant f (values (number 2) None (Some (numbers_of 4 5 6))) element_of_a ≡ value.Number (pos 5)
meant_set f = meant_element f (values (number 2) None (Some (numbers_of 4 5 6))) ∙ there (types_of f.program) (value.Number (pos 4) ∷ value.Number (pos 5) ∷ value.Number (pos 6) ∷ []) 2

pub meant_out_of_range : (f : Frame) → meant f (values (number 4) None (Some (numbers_of 4 5 6))) element_of_a ≡ value.Number INTEGER_FIRST
meant_out_of_range f =
    meant_element f (values (number 4) None (Some (numbers_of 4 5 6)))
    ∙ there (types_of f.program) (value.Number (pos 4) ∷ value.Number (pos 5) ∷ value.Number (pos 6) ∷ []) 4
    ∙ first_integer

-- the first value of the type of A
first_array : first_in_shape (types_of part_program 6) ≡ value.Elements (pos 1) (first_in_shape integer_shape ∷ first_in_shape integer_shape ∷ first_in_shape integer_shape ∷ [])
first_array = ap first_in_shape looks ∙ fold_out-Shape Value first_step array_shape ∙ ap (λ x. first_step (map-Shape Shape Value first_in_shape x)) (shape.outs-Array 6 (pos 1) (pos 3) integer_shape)

pub meant_unset : (sub : Sub) (entry : Store) → meant (around part_program sub entry) (values (number 2) None None) element_of_a ≡ value.Number INTEGER_FIRST
meant_unset sub entry =
    let first : Value = first_in_shape integer_shape in
    meant_element (around part_program sub entry) (values (number 2) None None)
    ∙ ap (λ x. element_value (types_of part_program) indexing x (value.Number (pos 2))) first_array
    ∙ there (types_of part_program) (first ∷ first ∷ first ∷ []) 2
    ∙ first_integer

-- ---- `R.G` and `R.G := E`

eval_field : (f : Frame) (n : ℕ) (s : Store) → eval f n s field_of_r ≡ with_value (read s (place 6 4) (Some a)) (λ u. Gives (field_value (types_of f.program) selection u))
eval_field f n s = eval-Selected f n s (Name (r_at 4)) _ selection ∙ ap (λ of_r. with_value of_r (λ u. Gives (field_value (types_of f.program) selection u))) (eval_name f n s (r_at 4))

pub field_is : (f : Frame) (n : ℕ) → eval f n (values None None (Some (digits_of 3 4))) field_of_r ≡ Gives (value.Number (pos 4))
unfolding value_of_unary field_at
field_is f n =
    eval_field f n (values None None (Some (digits_of 3 4)))
    ∙ ap (λ out. Gives (field_in (first_of (types_of f.program) (component_of INTEGER)) 1 out)) (value.outs-Fields (value.Number (pos 3) ∷ value.Number (pos 4) ∷ []))

pub no_field : (f : Frame) (n : ℕ) → eval f n (values None None None) field_of_r ≡ Fails bad.Unset (place 6 4)
no_field f n = eval_field f n (values None None None)

-- what becomes of the assignment, where E is read as this and stands there
abbrev setting_field_from : Frame → Store → Place → Answer → Outcome
setting_field_from f s at_e of_e =
    use_value
    (with_value of_e (λ x.
    in_part INTEGER at_e x
    (with_value (read s (place 6 4) (Some a)) (λ old. Gives (with_end (types_of f.program) (field_step selection ∷ []) old x)))))
    (λ x. Ended (put s a (Some x)))

set_field_is : (f : Frame) (n : ℕ) (s : Store) → run f n s setting_field ≡ setting_field_from f s (place 6 11) (read s (place 6 11) (Some e))
set_field_is f n s =
    ap (setting_field_from f s _) (eval_name f n s (e_at 11)) ∙ ap (λ at_e. setting_field_from f s at_e (read s (place 6 11) (Some e))) (fold-Name place_in (e_at 11))

pub field_set : (f : Frame) (n : ℕ) → run f n (values None (number 7) (Some (digits_of 3 4))) setting_field ≡ Ended (values None (number 7) (Some (digits_of 3 7)))
field_set f n = set_field_is f n (values None (number 7) (Some (digits_of 3 4))) ∙ ap (λ x. Ended (values None (number 7) (Some x))) (put_g 3 4 7)

pub field_unset : (f : Frame) (n : ℕ) → run f n (values None (number 7) None) setting_field ≡ Bad bad.Unset (place 6 4)
field_unset f n = set_field_is f n (values None (number 7) None)

pub field_effect : effect setting_field ≡ assign (Some a) ((place 6 11, e) ∷ (place 6 4, a) ∷ []) (place 6 4)
field_effect = ap (λ (right : List CoreName). assign (Some a) (filter_map read_of (right ++ r_at 4 ∷ [])) (place 6 4)) (fold-Name names_step (e_at 11))

-- ---- the types in their order

row_made : (k : ℕ) (one other : TypeRow) → ◌≡◌ {A = Option TypeRow} (Some one) (Some other) → IsMade part_program k one one.form → IsMade part_program k other other.form
row_made k one other is h = subst (λ (row : TypeRow). IsMade part_program k row row.form) (let same : one ≡ other = cc in same) h

pub types_made : TypesAreMade part_program
types_made zero row is = row_made 0 _ row is refl
types_made (suc zero) row is = row_made 1 _ row is tt
types_made (suc (suc zero)) row is = row_made 2 _ row is refl
types_made (suc (suc (suc zero))) row is = row_made 3 _ row is refl
types_made (suc (suc (suc (suc zero)))) row is = row_made 4 _ row is refl
types_made (suc (suc (suc (suc (suc zero))))) row is = row_made 5 _ row is refl
types_made (suc (suc (suc (suc (suc (suc zero)))))) row is = row_made 6 _ row is (refl, refl, refl)
types_made (suc (suc (suc (suc (suc (suc (suc k))))))) row is = absurd (cc)

pub not_made : ¬ TypesAreMade endless_program
not_made made = let earlier = (made 6 _ refl).2 in absurd (omega (arith, earlier.before))
