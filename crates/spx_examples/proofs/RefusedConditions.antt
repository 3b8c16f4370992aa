-- The verification conditions of the procedure `Inc` without its precondition are not valid.
use Rattle.std.proofs.Common.{◌≡◌, ℤ, pos, true, false, [], ◌∷◌, refl, sym, ap, ap₂, subst, ◌∙◌}
use Rattle.std.specs.Prelude.{All}
use Rattle.std.specs.Fmt.{digits}
use Rattle.std.proofs.lemmas.List.Elements.{All-cons, All-nil, All-head}
use Rattle.spx_core.specs.declared.entity.TheConstants.{INTEGER_FIRST, INTEGER_LAST}
use Rattle.spx_core.specs.Commands.{commands}
use Rattle.spx_term.specs.declared.term.Sort.{Sort}
use Rattle.spx_term.specs.declared.term.Sort.TheVariants.{Integer, Boolean, Composite}
use Rattle.spx_term.specs.declared.term.Symbol.TheVariants as symbol
use Rattle.spx_term.specs.declared.term.TermOp.{TermOp}
use Rattle.spx_term.specs.declared.term.TermOp.TheVariants as sign
use Rattle.spx_term.specs.declared.term.Term.{Term}
use Rattle.spx_term.specs.declared.term.Term.TheVariants as term
use Rattle.spx_term.specs.declared.value.Value.{Value}
use Rattle.spx_term.specs.declared.value.Value.TheVariants.{Number, Truth}
use Rattle.spx_term.specs.Goals.{goal_of}
use Rattle.spx_term.specs.Values.{Types, first_value}
use Rattle.spx_term.proofs.ValueLaws.{first_is_in}
use Rattle.spx_meaning.specs.Stores.{types_of}
use Rattle.spx_term.specs.Meaning.{Valuation, HasSort, Holds, value_of, value_of_op}
use Rattle.spx_term.specs.Steps.{Cut}
use Rattle.spx_term.proofs.Terms.{value-Infix, value-Number, value-Variable}
use Rattle.spx_paths.specs.Walks.{ending, start_tree, walk}
use Rattle.spx_paths.specs.Conditions.{conditions_of}
use Rattle.spx_paths.specs.Fit.{Fit, HasValidConditions, IsValid}
use Rattle.spx_examples.specs.Increment.{place, step, entry_x, next_x, at_least_first, at_most_last, known_entry, sum_goals}
use Rattle.spx_examples.specs.Refused.{inc_without_pre, increment_without_pre, overflow_without_pre, range_without_pre}
use Rattle.spx_examples.proofs.IncrementRules.{inc_command}
use Rattle.spx_examples.proofs.Sums.{summed, path_from_entry, walk_step, claims_from_entry}
use Rattle.spx_examples.proofs.Trees.{conditions_from, trees_are}

-- ---- what they are

body_walk : walk increment_without_pre inc_without_pre (commands (step ∷ [])) (ending increment_without_pre inc_without_pre) (ending increment_without_pre inc_without_pre) 0 ≡ summed (place 6 11) Cut
body_walk = ap (λ c. walk increment_without_pre inc_without_pre c (ending increment_without_pre inc_without_pre) (ending increment_without_pre inc_without_pre) 0) inc_command ∙ walk_step (inc_without_pre ∷ []) inc_without_pre 6 4 9 (ending increment_without_pre inc_without_pre) (ending increment_without_pre inc_without_pre) 0

tree_is : start_tree increment_without_pre inc_without_pre ≡ path_from_entry (summed (place 6 11) Cut)
tree_is = ap path_from_entry body_walk

pub conditions_are : conditions_of increment_without_pre inc_without_pre ≡ overflow_without_pre ∷ range_without_pre ∷ []
unfolding digits
conditions_are =
    conditions_from increment_without_pre inc_without_pre (path_from_entry (summed (place 6 11) Cut) ∷ []) _
    (trees_are increment_without_pre inc_without_pre _ _ [] inc_command tree_is refl) (claims_from_entry (place 6 11))

-- ---- values that refute the first

abbrev types : Types
types = types_of increment_without_pre

-- each number is the last value of its type
abbrev of_sort : Sort → Value
of_sort Integer = Number INTEGER_LAST
of_sort Boolean = Truth false
of_sort (Composite id) = first_value (types id)

abbrev all_last : Valuation
all_last name = of_sort name.sort

sorted : (s : Sort) → HasSort types s (of_sort s)
sorted Integer = tt
sorted Boolean = tt
sorted (Composite id) = first_is_in (types id)

entry_value : value_of types all_last entry_x ≡ Number INTEGER_LAST
entry_value = value-Variable types all_last (record { symbol = symbol.Entry 0; sort = Integer })

value_before : (o : TermOp) (a : Term) (n : ℤ) (y : Value) → value_of types all_last a ≡ y → value_of types all_last (term.Infix o a (term.Number n)) ≡ value_of_op o y (Number n)
value_before o a n y is = value-Infix types all_last o a (term.Number n) ∙ ap₂ (value_of_op o) is (value-Number types all_last n)

next_value : value_of types all_last next_x ≡ Number (pos 2147483648)
unfolding value_of_op
next_value = value_before sign.Add entry_x (pos 1) (Number INTEGER_LAST) entry_value

first_holds : Holds types (at_least_first entry_x) all_last
unfolding value_of_op
first_holds = value_before sign.GreaterOrEqual entry_x INTEGER_FIRST (Number INTEGER_LAST) entry_value

last_holds : Holds types (at_most_last entry_x) all_last
unfolding value_of_op
last_holds = value_before sign.LessOrEqual entry_x INTEGER_LAST (Number INTEGER_LAST) entry_value

goals_fail : value_of types all_last (goal_of sum_goals) ≡ Truth false
unfolding value_of_op
goals_fail =
    value-Infix types all_last sign.And (at_least_first next_x) (at_most_last next_x)
    ∙ ap₂ (value_of_op sign.And) (value_before sign.GreaterOrEqual next_x INTEGER_FIRST (Number (pos 2147483648)) next_value) (value_before sign.LessOrEqual next_x INTEGER_LAST (Number (pos 2147483648)) next_value)

abbrev HoldsHere : Term → Type 0
HoldsHere hyp = Holds types hyp all_last

pub not_valid : ¬ IsValid increment_without_pre overflow_without_pre
not_valid valid =
    let known : All HoldsHere known_entry = All-cons HoldsHere (at_least_first entry_x) (at_most_last entry_x ∷ []) first_holds (All-cons HoldsHere (at_most_last entry_x) [] last_holds (All-nil HoldsHere)) in
    let holds = valid all_last (λ name. sorted name.sort) known in
    absurd (let e : Truth false ≡ Truth true = sym goals_fail ∙ holds in cc)

pub unfit : ¬ Fit increment_without_pre
unfit fit =
    let own : HasValidConditions increment_without_pre inc_without_pre = All-head (HasValidConditions increment_without_pre) inc_without_pre [] fit.conditions in
    not_valid (All-head (IsValid increment_without_pre) overflow_without_pre (range_without_pre ∷ []) (subst (All (IsValid increment_without_pre)) conditions_are own))
