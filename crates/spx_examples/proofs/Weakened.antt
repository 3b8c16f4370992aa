-- Lemmas for the laws that weaker definitions of runs, of the limit of bits, of validity and of the flow of loops break.
use Rattle.std.proofs.Common.{◌≡◌, ◌↔◌, ◌⊎◌, inl, inr, ⊎_elim, ℕ, zero, suc, ◌+◌, ℤ, pos, negsuc, ◌+ℤ◌, ◌-ℤ◌, int_le, Bool, true, false, List, [], ◌∷◌, ◌++◌, Option, Some, None, Ok, refl, ap, ap₂, subst, sym, ◌∙◌, arith}
use Rattle.std.specs.Prelude.{◌≢◌, ◌==◌, IsTrue, IsSome, IfSome, nat_lt, int_lt, is_none, option_and_then, option_map, ◌||◌, ◌&&◌, if◌then◌else◌}
use Rattle.std.specs.List.{filter_map}
use Rattle.std.proofs.lemmas.Int.{ints}
use Rattle.spx_num.specs.Widths.{fits}
use Rattle.spx_tree.specs.declared.expression.InfixOp.{InfixOp}
use Rattle.spx_tree.specs.declared.expression.InfixOp.TheVariants as op
use Rattle.spx_tree.specs.declared.expression.MemberOp.TheVariants.{In}
use Rattle.spx_tree.specs.declared.expression.PrefixOp.TheVariants.{Minus}
use Rattle.spx_tree.specs.declared.statement.AssertionKind.TheVariants.{Check}
use Rattle.spx_text.specs.declared.place.Place.{Place}
use Rattle.std.proofs.lemmas.List.Elements.{All-cons, All-head, All-nil}
use Rattle.spx_core.specs.declared.entity.TheConstants.{BOOLEAN, INTEGER_FIRST, INTEGER_LAST, POSITIVE}
use Rattle.spx_core.specs.declared.entity.VarId.{VarId}
use Rattle.spx_core.specs.declared.expression.CoreExpr.{CoreExpr}
use Rattle.spx_core.specs.declared.expression.CoreExpr.TheVariants.{Name, Number, Infix}
use Rattle.spx_core.specs.declared.function.CoreFunction.{CoreFunction}
use Rattle.spx_core.specs.declared.function.FunctionForm.TheVariants as form
use Rattle.spx_core.specs.declared.name.CoreName.{CoreName}
use Rattle.spx_core.specs.declared.program.Program.{Program}
use Rattle.spx_core.specs.declared.rule.ExprType.TheVariants.{Of}
use Rattle.spx_core.specs.declared.statement.CoreStmt.{CoreStmt}
use Rattle.spx_core.specs.declared.subprogram.Sub.{Sub}
use Rattle.spx_core.specs.Commands.{Command, Skip, Then, Assertion, Last, When, commands}
use Rattle.spx_core.specs.Dependency.{derives, exports}
use Rattle.spx_core.specs.Effects.{Effect, Read, effect, read_of, reads_of}
use Rattle.spx_core.specs.Effects as effects
use Rattle.spx_core.specs.Flow.{MayFlow, Given, Keeping, Steps, stay, advance}
use Rattle.spx_core.specs.Uses.{is_same}
use Rattle.spx_core.specs.Marks.{Lambda, Mu}
use Rattle.spx_core.specs.Reads.{names_step}
use Rattle.spx_core.specs.Judged.{application, expr_step, judged, typing}
use Rattle.spx_core.specs.Places.{place_of}
use Rattle.spx_core.proofs.Callers.CommandForms.{command-Assertion, command-Assignment}
use Rattle.spx_core.proofs.Callers.Expressions.{fold-Name, fold-Number, fold-Applied, fold-Prefix, fold-Infix, fold-InType, fold-InRange}
use Rattle.spx_term.specs.declared.term.Sort.TheVariants.{Integer}
use Rattle.spx_term.specs.declared.term.Symbol.TheVariants as symbol
use Rattle.spx_term.specs.declared.term.Term.{Term}
use Rattle.spx_term.specs.declared.term.Term.TheVariants as term
use Rattle.spx_term.specs.declared.term.TermOp.TheVariants.{GreaterOrEqual, LessOrEqual}
use Rattle.spx_term.specs.declared.value.Value.{Value}
use Rattle.spx_term.specs.declared.value.Value.TheVariants as value
use Rattle.spx_term.specs.Meaning.{as_number, as_truth, same_value, value_of, value_of_op, value_of_prefix, Holds, Valid, Valuation}
use Rattle.spx_term.proofs.Terms.{value-Infix, value-Number, value-Truth, value-Variable}
use Rattle.spx_examples.specs.Names.{target_to}
use Rattle.spx_examples.specs.Types.{no_composites}
use Rattle.spx_meaning.specs.declared.bad.BadKind.TheVariants.{Overflow, Pre, Unset}
use Rattle.spx_meaning.specs.declared.bad.BadKind.TheVariants as bad
use Rattle.spx_meaning.specs.Annotations.{truth}
use Rattle.spx_meaning.specs.Bits.{computed, computed_step, held, is_too_large, with_both}
use Rattle.spx_meaning.specs.Evaluation.{Answer, Gives, applied, applied_sign, eval, eval-Number, first_in, last_in, mapped_value, member, read}
use Rattle.spx_meaning.specs.Frames.{Frame, around}
use Rattle.spx_meaning.specs.Laws.{Agree, AreDerived, CallsAreSettled, OthersAreKept, Start, TwoRuns}
use Rattle.spx_meaning.specs.Limits.{call_passes, passes, passes_for, passes_in_count, passes_in_range, where_ended, where_given}
use Rattle.spx_meaning.specs.Runs.{Outcome, Ended, Left, Bad, Later, after_turn, then_do, use_value, demand, demand_post, exports_set, in_bounds, run, call}
use Rattle.spx_meaning.specs.Stores.{Store, look, type_of, is_in, types_of}
use Rattle.spx_meaning.proofs.Callers.Annotations.{computed_is_meant}
use Rattle.spx_examples.specs.Assertions.{doing, program_of}
use Rattle.spx_examples.specs.Increment.{place, integer_at, x, x_at, successor, step, inc, increment, entry_x}
use Rattle.spx_examples.specs.CountedLoops.{before, between_numbers, i, i_at, over, with_parameter}
use Rattle.spx_examples.specs.Flag.{flag, y}
use Rattle.spx_examples.specs.Flag as flags
use Rattle.spx_examples.specs.Loops.{endless, passing_on, passing_turn_by_turn, runs_from}
use Rattle.spx_examples.specs.Loops as loops
use Rattle.spx_examples.specs.LoopText.{loop_command}
use Rattle.spx_examples.specs.Next.{below_hundred_at}
use Rattle.spx_examples.specs.Operators.{true_at}
use Rattle.spx_examples.specs.Refused.{inc_without_pre, increment_without_pre}
use Rattle.spx_examples.specs.Sequents.{x_at_most, where_x_is}
use Rattle.spx_examples.specs.VariableRules.{z}
use Rattle.spx_examples.specs.Variants.{local_y_at, number, only_null, out_x_at}
use Rattle.spx_examples.specs.Weakenings.{x_of, power_at, power, positive_power_at, product, negated_power, quotient, above_two, guarded_power, natural_named, power_in_natural, up_to_power, below_limit, Computes, IsTooLarge, wanting_power, promising_power, checking_power, checking_twice, turns_with_power, endless_then_power, unset_power, unset_and_power, unset_program, parameter_power, each_passes, converted_power, choice_at, case_with_power, arm_with_power, exit_before_power, power_before_exit, exit_then_power, whole_type_passes, PassesLimit, KeepsLimit, EndsFrom, passes_from, other, with_other, reaching, y_at, z_at, all_of, FormalsAreKept, from_nothing, AreDerivedAtOneBound, NumbersFit, ValidInBits, x_at_least, up_to_greatest, from_least, past_greatest, passing_without_end, passing_parameter, passing_up_to_x}
use Rattle.spx_examples.proofs.IncrementFlows.{only_import}
use Rattle.spx_examples.proofs.IncrementRuns.{body_runs, precondition_means}
use Rattle.spx_examples.proofs.IncrementRules.{inc_command}
use Rattle.spx_examples.proofs.Evaluations.{assigns, eval_name, eval_operated, taking}
use Rattle.spx_examples.proofs.Loops.{endless_is_later}
use Rattle.spx_examples.proofs.LoopText.{command_is}
use Rattle.spx_examples.proofs.NextRuns.{below_of, eval_below}
use Rattle.spx_examples.proofs.OneVariable.{if_x}
use Rattle.spx_examples.proofs.Lists as lists
use Rattle.spx_examples.proofs.Sequents.{sorted}
use Rattle.spx_examples.proofs.Statements.{null_is, operating, to_end}
use Rattle.spx_examples.proofs.Successor.{assigning, judged_x, step_command, step_runs, successor_of}

-- ---- starts from below 0

-- X has a value of its type
in_type : (m : ℤ) → IsTrue (is_in (types_of increment) (type_of increment x) (value.Number m)) → (k : ℕ) → let v : VarId = record { 0 = k } in IfSome (look (x_of m) v) (λ y. IsTrue (is_in (types_of increment) (type_of increment v) y))
in_type m lies zero = lies
in_type m lies (suc k) = tt

starts : (m : ℤ) → IsTrue (is_in (types_of increment) (type_of increment x) (value.Number m)) → IsTrue (int_lt m INTEGER_LAST) → Start increment inc (x_of m)
starts m lies below = record {
  precondition = ap as_truth (precondition_means m) ∙ below;
  imports_set = λ v imported. subst (λ w. IsSome (look (x_of m) w)) (only_import v imported) refl;
  in_types = λ v. in_type m lies v.0;
}

pub from_below_zero : Start increment inc (x_of (negsuc 4))
from_below_zero = starts (negsuc 4) refl refl

pub from_first : Start increment inc (x_of INTEGER_FIRST)
from_first = starts INTEGER_FIRST refl refl

-- around the call from this value of X
abbrev frame : ℤ → Frame
frame m = around increment inc (x_of m)

-- a call from this value of X, where the precondition means this
abbrev from_value : ℤ → ℕ → Value → Outcome
from_value m n truth = then_do (demand (as_truth truth) Pre (place 3 5) (x_of m)) (λ s. to_end inc (run (frame m) n s (commands (step ∷ []))))

pub ends_below_zero : (n : ℕ) → call increment n inc (x_of (negsuc 4)) ≡ Ended (x_of (negsuc 3))
unfolding value_of_op
ends_below_zero n = ap (from_value (negsuc 4) n) (precondition_means (negsuc 4)) ∙ ap (to_end inc) (body_runs (frame (negsuc 4)) n (x_of (negsuc 4)))

pub ends_after_first : (n : ℕ) → call increment n inc (x_of INTEGER_FIRST) ≡ Ended (x_of (negsuc 2147483646))
unfolding value_of_op
ends_after_first n = ap (from_value INTEGER_FIRST n) (precondition_means INTEGER_FIRST) ∙ ap (to_end inc) (body_runs (frame INTEGER_FIRST) n (x_of INTEGER_FIRST))

-- ---- numbers of more than 128 bits

-- an operation on what its operands compute
abbrev operated : InfixOp → Option Value → Option Value → Option Value
operated o a b = with_both a b (λ u v. held (applied o u v))

module _ (m : ℤ) (f : Frame) where
  abbrev by_step : CoreExpr → Option Value
  by_step = computed f (x_of m)

  infix_computes : (o : InfixOp) (at : Place) (a b : CoreExpr) (u v : Option Value) → by_step a ≡ u → by_step b ≡ v → by_step (Infix o at a b) ≡ operated o u v
  infix_computes o at a b u v is_u is_v = fold-Infix (computed_step f (x_of m)) o at a b ∙ ap₂ (operated o) is_u is_v

  name_computes : (line column : ℕ) → by_step (Name (x_at line column)) ≡ Some (value.Number m)
  name_computes line column = fold-Name (computed_step f (x_of m)) (x_at line column)

  number_computes : (k : ℤ) (at : Place) → by_step (Number k at) ≡ Some (value.Number k)
  number_computes k at = fold-Number (computed_step f (x_of m)) k at

  power_computes : (line column : ℕ) (k : ℤ) → by_step (power_at line column k) ≡ operated op.Power (Some (value.Number m)) (Some (value.Number k))
  power_computes line column k = infix_computes op.Power (place line (column + 2)) (Name (x_at line column)) (Number k (place line (column + 5))) _ _ (name_computes line column) (number_computes k (place line (column + 5)))

  positive_computes : (line column : ℕ) → by_step (positive_power_at line column) ≡ operated op.Greater (operated op.Power (Some (value.Number m)) (Some (value.Number (pos 127)))) (Some (value.Number (pos 0)))
  positive_computes line column =
      infix_computes op.Greater (place line (column + 9)) (power_at line column (pos 127)) (Number (pos 0) (place line (column + 11))) _ _
      (power_computes line column (pos 127)) (number_computes (pos 0) (place line (column + 11)))

pub power_fits : Computes (pos 2) (power (pos 126)) (value.Number (pos 85070591730234615865843651857942052864))
unfolding fits value_of_op
power_fits f = power_computes (pos 2) f 3 9 (pos 126)

pub least_fits : Computes (negsuc 1) (power (pos 127)) (value.Number (negsuc 170141183460469231731687303715884105727))
unfolding fits value_of_op
least_fits f = power_computes (negsuc 1) f 3 9 (pos 127)

pub power_is_large : IsTooLarge (pos 2) (power (pos 127))
unfolding fits value_of_op
power_is_large f = ap is_none (power_computes (pos 2) f 3 9 (pos 127))

pub product_is_large : IsTooLarge (pos 2) product
unfolding fits value_of_op
product_is_large f =
    ap is_none
    (infix_computes (pos 2) f op.Multiply (place 3 17) (power (pos 64)) (power_at 3 19 (pos 63)) _ _ (power_computes (pos 2) f 3 9 (pos 64)) (power_computes (pos 2) f 3 19 (pos 63)))

pub product_fits : Computes (negsuc 1) product (value.Number (negsuc 170141183460469231731687303715884105727))
unfolding fits value_of_op
product_fits f =
    infix_computes (negsuc 1) f op.Multiply (place 3 17) (power (pos 64)) (power_at 3 19 (pos 63)) _ _ (power_computes (negsuc 1) f 3 9 (pos 64)) (power_computes (negsuc 1) f 3 19 (pos 63))

-- minus what is computed
abbrev negated : Option Value → Option Value
negated a = option_and_then (λ u. held (applied_sign Minus u)) a

negated_computes : (m : ℤ) (f : Frame) → computed f (x_of m) negated_power ≡ negated (operated op.Power (Some (value.Number m)) (Some (value.Number (pos 127))))
negated_computes m f = fold-Prefix (computed_step f (x_of m)) Minus (place 3 9) (power_at 3 11 (pos 127)) ∙ ap negated (power_computes m f 3 11 (pos 127))

pub negation_is_large : IsTooLarge (negsuc 1) negated_power
unfolding fits value_of_op value_of_prefix
negation_is_large f = ap is_none (negated_computes (negsuc 1) f)

-- ---- an operand that is too large

pub negated_operand : IsTooLarge (pos 2) negated_power
unfolding fits value_of_op value_of_prefix
negated_operand f = ap is_none (negated_computes (pos 2) f)

pub converted_operand : IsTooLarge (pos 2) converted_power
unfolding fits value_of_op
converted_operand f =
    let function : CoreFunction = record { name = integer_at 3 9; form = form.Simple } in
    ap is_none
    (fold-Applied (computed_step f (x_of (pos 2))) function (place 3 17) (power_at 3 18 (pos 127))
    ∙ ap (λ a. option_and_then (λ u. held (mapped_value (application function) u)) a) (power_computes (pos 2) f 3 18 (pos 127)))

pub quotient_operand : IsTooLarge (pos 2) quotient
unfolding fits value_of_op
quotient_operand f =
    ap is_none (infix_computes (pos 2) f op.Divide (place 3 18) (power (pos 127)) (Name (x_at 3 20)) _ _ (power_computes (pos 2) f 3 9 (pos 127)) (name_computes (pos 2) f 3 20))

pub compared_operand : IsTooLarge (pos 2) (positive_power_at 3 9)
unfolding fits value_of_op
compared_operand f = ap is_none (positive_computes (pos 2) f 3 9)

above_computes : (m : ℤ) (f : Frame) (line column : ℕ) → computed f (x_of m) (above_two line column) ≡ operated op.Greater (Some (value.Number m)) (Some (value.Number (pos 2)))
above_computes m f line column =
    infix_computes m f op.Greater (place line (column + 2)) (Name (x_at line column)) (Number (pos 2) (place line (column + 4))) _ _ (name_computes m f line column) (number_computes m f (pos 2) (place line (column + 4)))

pub guarded_operand : IsTooLarge (pos 2) guarded_power
unfolding fits value_of_op
guarded_operand f =
    ap is_none (infix_computes (pos 2) f op.AndThen (place 3 15) (above_two 3 9) (positive_power_at 3 24) _ _ (above_computes (pos 2) f 3 9) (positive_computes (pos 2) f 3 24))

pub tested_operand : IsTooLarge (pos 2) power_in_natural
unfolding fits value_of_op
tested_operand f =
    ap is_none
    (fold-InType (computed_step f (x_of (pos 2))) In (place 3 18) (power (pos 127)) natural_named
    ∙ ap (λ a. option_map (λ u. member In u (first_in natural_named) (last_in natural_named)) a) (power_computes (pos 2) f 3 9 (pos 127)))

-- the test, where the bounds compute this
abbrev between : Option Value → Option Value → Option Value → Option Value
between a low high = with_both a low (λ u v. option_map (λ w. member In u v w) high)

pub bound_operand : IsTooLarge (pos 2) up_to_power
unfolding fits value_of_op
bound_operand f =
    ap is_none
    (fold-InRange (computed_step f (x_of (pos 2))) In (place 3 11) (Name (x_at 3 9)) (Number (pos 3) (place 3 14)) (power_at 3 19 (pos 127))
    ∙ ap₂ (λ a low. between a low (computed f (x_of (pos 2)) (power_at 3 19 (pos 127)))) (name_computes (pos 2) f 3 9) (number_computes (pos 2) f (pos 3) (place 3 14))
    ∙ ap (between (Some (value.Number (pos 2))) (Some (value.Number (pos 3)))) (power_computes (pos 2) f 3 19 (pos 127)))

-- ---- what is not computed

pub written_is_held : Computes (pos 2) below_limit (value.Truth true)
unfolding value_of_op
written_is_held f =
    infix_computes (pos 2) f op.Less (place 3 11) (Name (x_at 3 9)) (Number (pos 170141183460469231731687303715884105728) (place 3 13)) _ _
    (name_computes (pos 2) f 3 9) (number_computes (pos 2) f (pos 170141183460469231731687303715884105728) (place 3 13))

pub small_is_held : Computes (pos 1) guarded_power (value.Truth false)
unfolding fits value_of_op
small_is_held f =
    infix_computes (pos 1) f op.AndThen (place 3 15) (above_two 3 9) (positive_power_at 3 24) _ _ (above_computes (pos 1) f 3 9) (positive_computes (pos 1) f 3 24)

-- ---- runs that pass the limit, and runs that do not

or_true : (a b : Bool) → a ≡ true → a || b ≡ true
or_true a b is = ap (λ c. c || b) is

or_false : (a b : Bool) → a ≡ false → b ≡ false → a || b ≡ false
or_false a b first second = ap₂ (λ c d. c || d) first second

or_none : (a b : Bool) → b ≡ false → a || b ≡ a
or_none true b none = refl
or_none false b none = none

-- nothing is looked at after this
nothing_after : (o : Outcome) → where_ended o (λ t. false) ≡ false
nothing_after (Ended t) = refl
nothing_after (Left t) = refl
nothing_after (Bad kind at) = refl
nothing_after Later = refl

nothing_more : (o : Outcome) (next : Store → Outcome) → where_ended o (λ t. where_ended (next t) (λ u. false)) ≡ false
nothing_more (Ended t) next = nothing_after (next t)
nothing_more (Left t) next = refl
nothing_more (Bad kind at) next = refl
nothing_more Later next = refl

-- around a call from this value of X
abbrev around_call : Sub → ℤ → Frame
around_call sub m = around (program_of sub) sub (x_of m)

-- without a precondition and a postcondition only the statements count
doing_passes : (statements : List CoreStmt) (line n : ℕ) (m : ℤ) (b : Bool) → passes (around_call (doing statements line) m) n (x_of m) (commands statements) ≡ b
    → call_passes (program_of (doing statements line)) n (doing statements line) (x_of m) ≡ b
doing_passes statements line n m b is =
    let f : Frame = around_call (doing statements line) m in
    or_none (passes f n (x_of m) (commands statements)) _ (nothing_more (run f n (x_of m) (commands statements)) (λ t. demand (exports_set f.sub t) Unset (place line 1) t)) ∙ is

-- ---- `X ** 127 > 0`

module _ (f : Frame) (line column : ℕ) where
  large_at_2 : is_too_large f (x_of (pos 2)) (positive_power_at line column) ≡ true
  unfolding fits value_of_op
  large_at_2 = ap is_none (positive_computes (pos 2) f line column)

  large_at_3 : is_too_large f (x_of (pos 3)) (positive_power_at line column) ≡ true
  unfolding fits value_of_op
  large_at_3 = ap is_none (positive_computes (pos 3) f line column)

  large_at_4 : is_too_large f (x_of (pos 4)) (positive_power_at line column) ≡ true
  unfolding fits value_of_op
  large_at_4 = ap is_none (positive_computes (pos 4) f line column)

  value_at_1 : computed f (x_of (pos 1)) (positive_power_at line column) ≡ Some (value.Truth true)
  unfolding fits value_of_op
  value_at_1 = positive_computes (pos 1) f line column

  held_at_1 : is_too_large f (x_of (pos 1)) (positive_power_at line column) ≡ false
  held_at_1 = ap is_none value_at_1

  true_at_1 : truth f (x_of (pos 1)) (positive_power_at line column) ≡ true
  true_at_1 = ap as_truth (computed_is_meant f (x_of (pos 1)) (positive_power_at line column) (value.Truth true) value_at_1)

  value_below : computed f (x_of (negsuc 1)) (positive_power_at line column) ≡ Some (value.Truth false)
  unfolding fits value_of_op
  value_below = positive_computes (negsuc 1) f line column

  held_below : is_too_large f (x_of (negsuc 1)) (positive_power_at line column) ≡ false
  held_below = ap is_none value_below

  false_below : truth f (x_of (negsuc 1)) (positive_power_at line column) ≡ false
  false_below = ap as_truth (computed_is_meant f (x_of (negsuc 1)) (positive_power_at line column) (value.Truth false) value_below)

-- ---- in a precondition

-- where the precondition has this truth value
abbrev after_pre : ℕ → ℤ → Bool → Bool
after_pre n m b =
    where_ended (demand b Pre (place 3 5) (x_of m)) (λ entry.
    passes (around_call wanting_power m) n entry (commands only_null)
    || where_ended (run (around_call wanting_power m) n entry (commands only_null)) (λ t. where_ended (demand (exports_set wanting_power t) Unset (place 7 1) t) (λ u. false)))

pub pre_passes : PassesLimit wanting_power (pos 2)
pre_passes n = or_true _ _ (large_at_2 (around_call wanting_power (pos 2)) 3 9)

pub pre_keeps : KeepsLimit wanting_power (pos 1)
pre_keeps n =
    let f : Frame = around_call wanting_power (pos 1) in
    or_false _ _ (held_at_1 f 3 9)
    (ap (after_pre n (pos 1)) (true_at_1 f 3 9)
    ∙ or_false _ _ (ap (passes f n (x_of (pos 1))) (null_is (place 6 4))) (nothing_more (run f n (x_of (pos 1)) (commands only_null)) (λ t. demand (exports_set wanting_power t) Unset (place 7 1) t)))

pub pre_fails_first : KeepsLimit wanting_power (negsuc 1)
pre_fails_first n =
    let f : Frame = around_call wanting_power (negsuc 1) in
    or_false _ _ (held_below f 3 9) (ap (after_pre n (negsuc 1)) (false_below f 3 9))

pub pre_is_bad : EndsFrom wanting_power (negsuc 1) (Bad Pre (place 3 5))
pre_is_bad n =
    let f : Frame = around_call wanting_power (negsuc 1) in
    ap (λ b. then_do (demand b Pre (place 3 5) (x_of (negsuc 1))) (λ entry. to_end wanting_power (run f n entry (commands only_null)))) (false_below f 3 9)

-- ---- in a postcondition

-- where the statements pass, or have this outcome
abbrev to_post : ℤ → Bool → Outcome → Bool
to_post m passed o =
    let f : Frame = around_call promising_power m in
    passed || where_ended o (λ t. where_ended (demand (exports_set promising_power t) Unset (place 7 1) t) (λ u. is_too_large f u (positive_power_at 3 10)))

step_keeps : (f : Frame) (n : ℕ) (s : Store) → passes f n s (commands (step ∷ [])) ≡ false
step_keeps f n s = ap (passes f n s) inc_command ∙ nothing_after (run f n s (step_command 6 4 9))

pub post_passes : PassesLimit promising_power (pos 1)
unfolding value_of_op
post_passes n =
    let f : Frame = around_call promising_power (pos 1) in
    ap₂ (to_post (pos 1)) (step_keeps f n (x_of (pos 1))) (body_runs f n (x_of (pos 1))) ∙ large_at_2 f 3 10

pub post_keeps : KeepsLimit promising_power (pos 0)
unfolding value_of_op
post_keeps n =
    let f : Frame = around_call promising_power (pos 0) in
    ap₂ (to_post (pos 0)) (step_keeps f n (x_of (pos 0))) (body_runs f n (x_of (pos 0))) ∙ held_at_1 f 3 10

abbrev unset_frame : Frame
unset_frame = around unset_program unset_and_power (None ∷ [])

pub unset_keeps : (n : ℕ) (v : Option Value) → call_passes unset_program n unset_and_power (v ∷ []) ≡ false
unset_keeps n v =
    ap (λ c. passes unset_frame n (None ∷ []) c
    || where_ended (run unset_frame n (None ∷ []) c) (λ t. where_ended (demand (exports_set unset_and_power t) Unset (place 7 1) t) (λ u. is_too_large unset_frame u unset_power)))
    (null_is (place 6 4))

pub unset_is_bad : (n : ℕ) (v : Option Value) → call unset_program n unset_and_power (v ∷ []) ≡ Bad Unset (place 7 1)
unset_is_bad n v =
    ap (λ c. then_do (run unset_frame n (None ∷ []) c) (λ t. then_do (demand (exports_set unset_and_power t) Unset (place 7 1) t) (λ u. demand_post unset_frame unset_and_power.post u)))
    (null_is (place 6 4))

-- what the postcondition would compute
pub unset_is_large : is_too_large unset_frame (None ∷ []) unset_power ≡ true
unfolding fits value_of_op
unset_is_large =
    let step = computed_step unset_frame (None ∷ []) in
    ap is_none
    (fold-Infix step op.Greater (place 3 19) (Infix op.Power (place 3 12) (Name (out_x_at 3 10)) (Number (pos 127) (place 3 15))) (Number (pos 0) (place 3 21))
    ∙ ap₂ (operated op.Greater)
    (fold-Infix step op.Power (place 3 12) (Name (out_x_at 3 10)) (Number (pos 127) (place 3 15)) ∙ ap₂ (operated op.Power) (fold-Name step (out_x_at 3 10)) (fold-Number step (pos 127) (place 3 15)))
    (fold-Number step (pos 0) (place 3 21)))

-- ---- in a check after an assignment

after_step : commands checking_power.statements ≡ Then (step_command 6 4 9) (Then (Assertion Check (place 7 8) (positive_power_at 7 14)) Skip)
after_step = ap₂ (λ a b. Then a (Then b Skip)) (command-Assignment (target_to (x_at 6 4)) (successor 6 9)) (command-Assertion Check (place 7 8) (positive_power_at 7 14))

module _ (n : ℕ) (m : ℤ) where
  abbrev checking_frame : Frame
  checking_frame = around_call checking_power m

  -- where the assignment has this outcome
  abbrev then_checked : Outcome → Bool
  then_checked o =
      where_ended o (λ t. is_too_large checking_frame t (positive_power_at 7 14)
      || where_ended (demand (truth checking_frame t (positive_power_at 7 14)) bad.Check (place 7 8) t) (λ u. false))

  abbrev then_checks : Outcome → Outcome
  then_checks o = to_end checking_power (then_do o (λ t. then_do (demand (truth checking_frame t (positive_power_at 7 14)) bad.Check (place 7 8) t) Ended))

  -- X := X + 1
  abbrev assigned : Outcome
  assigned = assigning (program_of checking_power) (x_of m) (place 6 11) (successor_of (place 6 11) (read (x_of m) (place 6 9) (Some x)))

  step_and_check_passes : (b : Bool) → then_checked assigned ≡ b → call_passes (program_of checking_power) n checking_power (x_of m) ≡ b
  step_and_check_passes b is =
      doing_passes checking_power.statements 8 n m b (ap (passes checking_frame n (x_of m)) after_step ∙ ap then_checked (step_runs checking_frame n (x_of m) 6 4 9) ∙ is)

  step_and_check_runs : call (program_of checking_power) n checking_power (x_of m) ≡ then_checks assigned
  step_and_check_runs = ap (λ c. to_end checking_power (run checking_frame n (x_of m) c)) after_step ∙ ap then_checks (step_runs checking_frame n (x_of m) 6 4 9)

pub check_passes : PassesLimit checking_power (pos 1)
unfolding value_of_op
check_passes n = step_and_check_passes n (pos 1) true (or_true _ _ (large_at_2 (around_call checking_power (pos 1)) 7 14))

pub check_keeps : KeepsLimit checking_power (pos 0)
unfolding value_of_op
check_keeps n = step_and_check_passes n (pos 0) false (or_false _ _ (held_at_1 (around_call checking_power (pos 0)) 7 14) (nothing_after _))

pub overflow_keeps : KeepsLimit checking_power INTEGER_LAST
unfolding value_of_op
overflow_keeps n = step_and_check_passes n INTEGER_LAST false refl

pub overflow_is_first : EndsFrom checking_power INTEGER_LAST (Bad Overflow (place 6 11))
unfolding value_of_op
overflow_is_first n = step_and_check_runs n INTEGER_LAST

-- ---- in the second of two checks

twice_is : commands checking_twice.statements ≡ Then (Assertion Check (place 5 8) (above_two 5 14)) (Then (Assertion Check (place 6 8) (positive_power_at 6 14)) Skip)
twice_is = ap₂ (λ a b. Then a (Then b Skip)) (command-Assertion Check (place 5 8) (above_two 5 14)) (command-Assertion Check (place 6 8) (positive_power_at 6 14))

module _ (n : ℕ) (m : ℤ) where
  abbrev twice_frame : Frame
  twice_frame = around_call checking_twice m

  -- where the first is too large, or not, and has this truth value
  abbrev twice_passed : Bool → Bool → Bool
  twice_passed large b =
      large || where_ended (demand b bad.Check (place 5 8) (x_of m)) (λ t. is_too_large twice_frame t (positive_power_at 6 14)
      || where_ended (demand (truth twice_frame t (positive_power_at 6 14)) bad.Check (place 6 8) t) (λ u. false))

  twice_passes : (b c : Bool) → computed twice_frame (x_of m) (above_two 5 14) ≡ Some (value.Truth b) → twice_passed false b ≡ c → call_passes (program_of checking_twice) n checking_twice (x_of m) ≡ c
  twice_passes b c is passed =
      doing_passes checking_twice.statements 7 n m c
      (ap (passes twice_frame n (x_of m)) twice_is
      ∙ ap₂ twice_passed (ap is_none is) (ap as_truth (computed_is_meant twice_frame (x_of m) (above_two 5 14) (value.Truth b) is))
      ∙ passed)

pub first_check_fails : KeepsLimit checking_twice (pos 2)
unfolding value_of_op
first_check_fails n = twice_passes n (pos 2) false false (above_computes (pos 2) (around_call checking_twice (pos 2)) 5 14) refl

pub second_check_passes : PassesLimit checking_twice (pos 3)
unfolding value_of_op
second_check_passes n = twice_passes n (pos 3) true true (above_computes (pos 3) (around_call checking_twice (pos 3)) 5 14) (or_true _ _ (large_at_3 (around_call checking_twice (pos 3)) 6 14))

-- ---- in turns of a loop

abbrev turn_body : Command
turn_body = Then (Assertion Check (place 6 11) (positive_power_at 6 17)) (Then (step_command 7 7 12) Skip)

abbrev from_1 : Frame
from_1 = around increment_without_pre inc_without_pre (x_of (pos 1))

module _ (n : ℕ) (s : Store) where
  -- where a turn is left, the test has this answer, and the body passes, or has this outcome
  abbrev in_turn : Answer → Bool → Outcome → Bool
  in_turn test passed o = where_given test (λ v. as_truth v && (passed || where_ended o (λ t. passes from_1 n t turns_with_power)))

  turn_passes : passes from_1 (suc n) s turns_with_power ≡ in_turn (below_of (read s (place 5 7) (Some x))) (passes from_1 n s turn_body) (run from_1 n s turn_body)
  turn_passes = ap (λ a. in_turn a (passes from_1 n s turn_body) (run from_1 n s turn_body)) (eval_below from_1 (suc n) s)

body_keeps : (n : ℕ) → passes from_1 n (x_of (pos 1)) turn_body ≡ false
body_keeps n =
    or_false _ _ (held_at_1 from_1 6 17)
    (nothing_more (demand (truth from_1 (x_of (pos 1)) (positive_power_at 6 17)) bad.Check (place 6 11) (x_of (pos 1))) (λ t. run from_1 n t (step_command 7 7 12)))

body_ends : (n : ℕ) → run from_1 n (x_of (pos 1)) turn_body ≡ Ended (x_of (pos 2))
unfolding value_of_op
body_ends n =
    ap (λ b. then_do (demand b bad.Check (place 6 11) (x_of (pos 1))) (λ t. then_do (run from_1 n t (step_command 7 7 12)) Ended)) (true_at_1 from_1 6 17)
    ∙ ap (λ o. then_do o Ended) (step_runs from_1 n (x_of (pos 1)) 7 7 12)

pub first_turn_keeps : passes_from 1 (pos 1) turns_with_power ≡ false
unfolding value_of_op
first_turn_keeps = turn_passes 0 (x_of (pos 1)) ∙ or_false _ _ (body_keeps 0) (nothing_after (run from_1 0 (x_of (pos 1)) turn_body))

pub second_turn_passes : passes_from 2 (pos 1) turns_with_power ≡ true
unfolding value_of_op
second_turn_passes =
    turn_passes 1 (x_of (pos 1))
    ∙ ap₂ (λ b o. b || where_ended o (λ t. passes from_1 1 t turns_with_power)) (body_keeps 1) (body_ends 1)
    ∙ turn_passes 0 (x_of (pos 2))
    ∙ or_true _ _ (or_true _ _ (large_at_2 from_1 6 17))

pub first_turn_is_later : runs_from 1 (pos 1) turns_with_power ≡ Later
unfolding value_of_op
first_turn_is_later =
    ap (λ a. use_value a (λ v. if as_truth v then after_turn (run from_1 0 (x_of (pos 1)) turn_body) (λ t. run from_1 0 t turns_with_power) else Ended (x_of (pos 1)))) (eval_below from_1 1 (x_of (pos 1)))
    ∙ ap (λ o. after_turn o (λ t. run from_1 0 t turns_with_power)) (body_ends 0)
    ∙ ap (λ a. use_value a (λ v. if as_truth v then Later else Ended (x_of (pos 2)))) (eval_below from_1 0 (x_of (pos 2)))

-- ---- after a loop without end

endless_keeps : (f : Frame) (n : ℕ) (s : Store) → passes f n s endless ≡ false
endless_keeps f zero s = refl
endless_keeps f (suc n) s = ap (λ a. where_given a (λ v. as_truth v && passes f n s endless)) (eval_name f (suc n) s (true_at 5 10)) ∙ endless_keeps f n s

pub nothing_after_endless : (f : Frame) (n : ℕ) (s : Store) → passes f n s endless_then_power ≡ false
nothing_after_endless f n s =
    or_false _ _ (endless_keeps f n s) (ap (λ o. where_ended o (λ t. passes f n t (Then (Assertion Check (place 6 8) (positive_power_at 6 14)) Skip))) (endless_is_later f n s))

-- ---- in turns of a loop that counts

abbrev counted_frame : Frame
counted_frame = around with_parameter flag (before (pos 0))

-- the parameter has this value
abbrev at_turn : ℤ → Store
at_turn k = number (pos 7) ∷ number (pos 0) ∷ number k ∷ []

abbrev counted_body : Command
counted_body = Then (Assertion Check (place 6 11) parameter_power) Skip

parameter_computes : (k : ℤ) → computed counted_frame (at_turn k) parameter_power ≡ operated op.Greater (operated op.Power (Some (value.Number k)) (Some (value.Number (pos 127)))) (Some (value.Number (pos 0)))
parameter_computes k =
    let step = computed_step counted_frame (at_turn k) in
    fold-Infix step op.Greater (place 6 23) (Infix op.Power (place 6 16) (Name (i_at 6 14)) (Number (pos 127) (place 6 19))) (Number (pos 0) (place 6 25))
    ∙ ap₂ (operated op.Greater)
    (fold-Infix step op.Power (place 6 16) (Name (i_at 6 14)) (Number (pos 127) (place 6 19)) ∙ ap₂ (operated op.Power) (fold-Name step (i_at 6 14)) (fold-Number step (pos 127) (place 6 19)))
    (fold-Number step (pos 0) (place 6 25))

parameter_at_1 : computed counted_frame (at_turn (pos 1)) parameter_power ≡ Some (value.Truth true)
unfolding fits value_of_op
parameter_at_1 = parameter_computes (pos 1)

large_parameter_at_2 : is_too_large counted_frame (at_turn (pos 2)) parameter_power ≡ true
unfolding fits value_of_op
large_parameter_at_2 = ap is_none (parameter_computes (pos 2))

counted_body_keeps : (n : ℕ) → passes counted_frame n (at_turn (pos 1)) counted_body ≡ false
counted_body_keeps n = or_false _ _ (ap is_none parameter_at_1) (nothing_after (demand (truth counted_frame (at_turn (pos 1)) parameter_power) bad.Check (place 6 11) (at_turn (pos 1))))

counted_body_ends : (n : ℕ) → run counted_frame n (at_turn (pos 1)) counted_body ≡ Ended (at_turn (pos 1))
counted_body_ends n =
    ap (λ b. then_do (demand b bad.Check (place 6 11) (at_turn (pos 1))) Ended) (ap as_truth (computed_is_meant counted_frame (at_turn (pos 1)) parameter_power (value.Truth true) parameter_at_1))

module _ (low high : ℤ) where
  -- the turns from this value of the parameter on
  abbrev from_turn : ℕ → ℤ → Store → Bool
  from_turn n k t = passes_in_count (over false (between_numbers low high)) (λ k t. run counted_frame k t counted_body) (λ k t. passes counted_frame k t counted_body) high n k t

  -- where the bounds have these values
  abbrev within_bounds : ℕ → Answer → Answer → Bool
  within_bounds n first last =
      where_given first (λ u.
      where_given last (λ v.
      where_ended (in_bounds POSITIVE (place_of (Number low (place 5 28))) (as_number u) (as_number v) (before (pos 0)))
      (passes_in_range (over false (between_numbers low high)) (λ k t. run counted_frame k t counted_body) (λ k t. passes counted_frame k t counted_body) n (as_number u) (as_number v))))

  in_bounds_is : (n : ℕ) → each_passes n low high ≡ within_bounds n (Gives (value.Number low)) (Gives (value.Number high))
  in_bounds_is n = ap₂ (within_bounds n) (eval-Number counted_frame n (before (pos 0)) low (place 5 28)) (eval-Number counted_frame n (before (pos 0)) high (place 5 33))

pub turn_of_2_passes : each_passes 2 (pos 1) (pos 2) ≡ true
turn_of_2_passes =
    in_bounds_is (pos 1) (pos 2) 2
    ∙ ap₂ (λ b o. b || where_ended o (from_turn (pos 1) (pos 2) 1 (pos 2))) (counted_body_keeps 1) (counted_body_ends 1)
    ∙ or_true _ _ (or_true _ _ large_parameter_at_2)

pub whole_type_turn_passes : whole_type_passes 2 ≡ true
whole_type_turn_passes =
    ap₂ (λ b o. b || where_ended o (λ t. passes_in_count (over false None) (λ k t. run counted_frame k t counted_body) (λ k t. passes counted_frame k t counted_body) INTEGER_LAST 1 (pos 2) t))
    (counted_body_keeps 1) (counted_body_ends 1)
    ∙ or_true _ _ (or_true _ _ large_parameter_at_2)

pub whole_type_turn_keeps : whole_type_passes 1 ≡ false
whole_type_turn_keeps = or_false _ _ (counted_body_keeps 0) (nothing_after (run counted_frame 0 (at_turn (pos 1)) counted_body))

pub turn_of_1_keeps : each_passes 1 (pos 1) (pos 2) ≡ false
turn_of_1_keeps = in_bounds_is (pos 1) (pos 2) 1 ∙ or_false _ _ (counted_body_keeps 0) (nothing_after (run counted_frame 0 (at_turn (pos 1)) counted_body))

pub only_turn_keeps : (n : ℕ) → each_passes n (pos 1) (pos 1) ≡ false
only_turn_keeps zero = in_bounds_is (pos 1) (pos 1) 0
only_turn_keeps (suc n) = in_bounds_is (pos 1) (pos 1) (suc n) ∙ or_false _ _ (counted_body_keeps n) (nothing_after (run counted_frame n (at_turn (pos 1)) counted_body))

pub no_turn_keeps : (n : ℕ) → each_passes n (pos 2) (pos 1) ≡ false
no_turn_keeps n = in_bounds_is (pos 2) (pos 1) n

pub bad_bounds_keep : (n : ℕ) → each_passes n (pos 0) (pos 2) ≡ false
bad_bounds_keep n = in_bounds_is (pos 0) (pos 2) n

-- ---- in an arm, and past an exit

-- where the test has this answer
abbrev in_arm : Frame → ℕ → Store → Answer → Bool
in_arm f n s test = where_given test (λ v. if as_truth v then passes f n s (Then (Assertion Check (place 6 11) (positive_power_at 6 17)) Skip) else false)

pub arm_passes : (f : Frame) (n : ℕ) → passes f n (x_of (pos 2)) arm_with_power ≡ true
unfolding value_of_op
arm_passes f n = ap (in_arm f n (x_of (pos 2))) (eval_below f n (x_of (pos 2))) ∙ or_true _ _ (large_at_2 f 6 17)

pub past_arm_keeps : (f : Frame) (n : ℕ) → passes f n (x_of (pos 100)) arm_with_power ≡ false
unfolding value_of_op
past_arm_keeps f n = ap (in_arm f n (x_of (pos 100))) (eval_below f n (x_of (pos 100)))

-- where the selector has this value
abbrev in_case : Frame → ℕ → Store → Answer → Bool
in_case f n s selector =
    where_given selector (λ v. passes_for v f n s
    (When (Some (choice_at 6 (pos 2) ∷ [])) (Then (Assertion Check (place 7 14) (positive_power_at 7 20)) Skip)
    (When (Some (choice_at 8 (pos 3) ∷ [])) (Then Skip Skip)
    (Last None (Then (Assertion Check (place 11 14) (positive_power_at 11 20)) Skip)))))

pub alternative_passes : (f : Frame) (n : ℕ) → passes f n (x_of (pos 2)) case_with_power ≡ true
alternative_passes f n = ap (in_case f n (x_of (pos 2))) (eval_name f n (x_of (pos 2)) (x_at 5 9)) ∙ or_true _ _ (large_at_2 f 7 20)

pub next_alternative_keeps : (f : Frame) (n : ℕ) → passes f n (x_of (pos 3)) case_with_power ≡ false
next_alternative_keeps f n = ap (in_case f n (x_of (pos 3))) (eval_name f n (x_of (pos 3)) (x_at 5 9))

pub others_pass : (f : Frame) (n : ℕ) → passes f n (x_of (pos 4)) case_with_power ≡ true
others_pass f n = ap (in_case f n (x_of (pos 4))) (eval_name f n (x_of (pos 4)) (x_at 5 9)) ∙ or_true _ _ (large_at_4 f 11 20)

pub exit_keeps : (f : Frame) (n : ℕ) (s : Store) → passes f n s exit_before_power ≡ false
exit_keeps f zero s = refl
exit_keeps f (suc n) s = refl

pub before_exit_passes : (f : Frame) (n : ℕ) → passes f (suc n) (x_of (pos 2)) power_before_exit ≡ true
before_exit_passes f n = or_true _ _ (or_true _ _ (large_at_2 f 6 17))

pub after_exit_passes : (f : Frame) (n : ℕ) → passes f (suc n) (x_of (pos 2)) exit_then_power ≡ true
after_exit_passes f n = or_true _ _ (large_at_2 f 9 14)

-- ---- variables of another procedure

pub others_kept : (n : ℕ) (v w : Option Value) → call (with_other inc_without_pre) n inc_without_pre (all_of (number (pos 41)) v w) ≡ Ended (all_of (number (pos 42)) v w)
unfolding value_of_op
others_kept n v w =
    let s : Store = all_of (number (pos 41)) v w in
    ap (to_end inc_without_pre) (body_runs (around (with_other inc_without_pre) inc_without_pre s) n s)

-- `name := X`, from 41
reaches : (name : CoreName) (n : ℕ) (v w : Option Value) → call (with_other (reaching name)) n (reaching name) (all_of (number (pos 41)) v w)
    ≡ to_end (reaching name) (taking (around (with_other (reaching name)) (reaching name) (all_of (number (pos 41)) v w)) (all_of (number (pos 41)) v w) name (Name (x_at 6 9)) (Gives (value.Number (pos 41))))
reaches name n v w =
    let s : Store = all_of (number (pos 41)) v w in
    let f : Frame = around (with_other (reaching name)) (reaching name) s in
    ap (to_end (reaching name)) (assigns f n s name (Name (x_at 6 9)) (Gives (value.Number (pos 41))) (eval_name f n s (x_at 6 9)))

pub formal_changes : (n : ℕ) (v w : Option Value) → call (with_other (reaching (y_at 6 4))) n (reaching (y_at 6 4)) (all_of (number (pos 41)) v w) ≡ Ended (all_of (number (pos 41)) (number (pos 41)) w)
formal_changes n v w = reaches (y_at 6 4) n v w

pub local_changes : (n : ℕ) (v w : Option Value) → call (with_other (reaching (z_at 6 4))) n (reaching (z_at 6 4)) (all_of (number (pos 41)) v w) ≡ Ended (all_of (number (pos 41)) v (number (pos 41)))
local_changes n v w = reaches (z_at 6 4) n v w

-- X is 41, Y is 7, and Z is 8
abbrev three : Store
three = all_of (number (pos 41)) (number (pos 7)) (number (pos 8))

three_in_types : (name : CoreName) (k : ℕ) → let v : VarId = record { 0 = k } in IfSome (look three v) (λ u. IsTrue (is_in (types_of (with_other (reaching name))) (type_of (with_other (reaching name)) v) u))
three_in_types name zero = refl
three_in_types name (suc zero) = refl
three_in_types name (suc (suc zero)) = refl
three_in_types name (suc (suc (suc k))) = tt

three_starts : (name : CoreName) → Start (with_other (reaching name)) (reaching name) three
three_starts name = record {
  precondition = refl;
  imports_set = λ v imported. subst (λ w. IsSome (look three w)) (only_import v imported) refl;
  in_types = λ v. three_in_types name v.0;
}

-- its one formal is an export
pub formals_kept : (name : CoreName) → FormalsAreKept (with_other (reaching name)) (reaching name)
formals_kept name n s s' start ended v formal kept =
    let is_x : x ≡ v = if_x (λ b. b || false) refl v formal in
    absurd (let none : exports x (reaching name) ≡ false = subst (λ w. exports w (reaching name) ≡ false) (sym is_x) kept in let e : ⊥ = cc in e)

pub formal_not_kept : ¬ OthersAreKept (with_other (reaching (y_at 6 4))) (reaching (y_at 6 4))
formal_not_kept law =
    let same = law 0 three (all_of (number (pos 41)) (number (pos 41)) (number (pos 8))) (three_starts (y_at 6 4)) (formal_changes 0 (number (pos 7)) (number (pos 8))) y refl refl in
    absurd (let e : ⊥ = cc in e)

pub local_not_kept : ¬ OthersAreKept (with_other (reaching (z_at 6 4))) (reaching (z_at 6 4))
local_not_kept law =
    let same = law 0 three (all_of (number (pos 41)) (number (pos 7)) (number (pos 41))) (three_starts (z_at 6 4)) (local_changes 0 (number (pos 7)) (number (pos 8))) z refl refl in
    absurd (let e : ⊥ = cc in e)

pub reach_fails : ¬ TwoRuns (with_other (reaching (y_at 6 4)))
reach_fails laws = formal_not_kept (All-head (OthersAreKept (with_other (reaching (y_at 6 4)))) (reaching (y_at 6 4)) (other ∷ []) laws.kept)

-- ---- two bounds

judged_below : judged (below_hundred_at 5 10) ≡ Ok (typing (Of BOOLEAN.base) None (place 5 12))
judged_below =
    fold-Infix expr_step op.Less (place 5 12) (Name (x_at 5 10)) (Number (pos 100) (place 5 14))
    ∙ ap₂ (operating op.Less (place 5 12)) (judged_x 5 10) (fold-Number expr_step (pos 100) (place 5 14))

module _ (m : ℤ) where
  abbrev nothing_frame : Frame
  nothing_frame = around (program_of from_nothing) from_nothing (x_of m)

  tests : (n : ℕ) (s : Store) → eval nothing_frame n s (below_hundred_at 5 10) ≡ below_of (read s (place 5 10) (Some x))
  tests n s =
      eval_operated nothing_frame n s op.Less (place 5 12) (Name (x_at 5 10)) (Number (pos 100) (place 5 14)) _ _ _
      judged_below (eval_name nothing_frame n s (x_at 5 10)) (eval-Number nothing_frame n s (pos 100) (place 5 14))

  -- where no turn is left
  abbrev ending : Store → Answer → Outcome
  ending s test = use_value test (λ v. if as_truth v then Later else Ended s)

  no_turn_left : (s : Store) → run nothing_frame 0 s loop_command ≡ ending s (below_of (read s (place 5 10) (Some x)))
  no_turn_left s = ap (ending s) (tests 0 s)

  -- where one is, and the body has this outcome
  abbrev turning : ℕ → Store → Answer → Outcome → Outcome
  turning n s test body = use_value test (λ v. if as_truth v then after_turn (then_do body Ended) (λ t. run nothing_frame n t loop_command) else Ended s)

  turn : (n : ℕ) (s : Store) → run nothing_frame (suc n) s loop_command
      ≡ turning n s (below_of (read s (place 5 10) (Some x))) (assigning (program_of from_nothing) s (place 6 14) (successor_of (place 6 14) (read s (place 6 12) (Some x))))
  turn n s = ap₂ (turning n s) (tests (suc n) s) (step_runs nothing_frame n s 6 7 12)

  calls : (n : ℕ) (o : Outcome) → run nothing_frame n (x_of m) loop_command ≡ o → call (program_of from_nothing) n from_nothing (x_of m) ≡ to_end from_nothing (then_do o Ended)
  calls n o is = ap (λ c. to_end from_nothing (run nothing_frame n (x_of m) c)) command_is ∙ ap (λ o. to_end from_nothing (then_do o Ended)) is

pub one_turn_is_few : call (program_of from_nothing) 1 from_nothing (x_of (pos 98)) ≡ Later
unfolding value_of_op
one_turn_is_few = calls (pos 98) 1 Later (turn (pos 98) 0 (x_of (pos 98)) ∙ no_turn_left (pos 98) (x_of (pos 99)))

pub two_turns_end : call (program_of from_nothing) 2 from_nothing (x_of (pos 98)) ≡ Ended (x_of (pos 100))
unfolding value_of_op
two_turns_end = calls (pos 98) 2 (Ended (x_of (pos 100))) (turn (pos 98) 1 (x_of (pos 98)) ∙ turn (pos 98) 0 (x_of (pos 99)) ∙ no_turn_left (pos 98) (x_of (pos 100)))

pub no_turn_ends : call (program_of from_nothing) 0 from_nothing (x_of (pos 101)) ≡ Ended (x_of (pos 101))
unfolding value_of_op
no_turn_ends = calls (pos 101) 0 (Ended (x_of (pos 101))) (no_turn_left (pos 101) (x_of (pos 101)))

nothing_in_type : (m : ℤ) → IsTrue (is_in (types_of (program_of from_nothing)) (type_of (program_of from_nothing) x) (value.Number m)) → (k : ℕ) → let v : VarId = record { 0 = k } in IfSome (look (x_of m) v) (λ u. IsTrue (is_in (types_of (program_of from_nothing)) (type_of (program_of from_nothing) v) u))
nothing_in_type m lies zero = lies
nothing_in_type m lies (suc k) = tt

nothing_starts : (m : ℤ) → IsTrue (is_in (types_of (program_of from_nothing)) (type_of (program_of from_nothing) x) (value.Number m)) → Start (program_of from_nothing) from_nothing (x_of m)
nothing_starts m lies = record {
  precondition = refl;
  imports_set = λ v imported. absurd (let e : ⊥ = cc in e);
  in_types = λ v. nothing_in_type m lies v.0;
}

-- X is derived from none, so that any two stores agree
agree : (s t : Store) → Agree (λ v. IsTrue (derives v x from_nothing)) s t
agree s t v derived = absurd (let none : derives v x from_nothing ≡ false = refl in let e : ⊥ = cc in e)

-- whether this is 100
abbrev is_hundred : Option Value → Bool
is_hundred (Some v) = same_value v (value.Number (pos 100))
is_hundred None = false

pub not_derived : ¬ AreDerived (program_of from_nothing) from_nothing
not_derived law =
    let same = law 2 0 (x_of (pos 98)) (x_of (pos 101)) (x_of (pos 100)) (x_of (pos 101)) (nothing_starts (pos 98) refl) (nothing_starts (pos 101) refl) two_turns_end no_turn_ends x refl (agree (x_of (pos 98)) (x_of (pos 101))) in
    absurd (let apart : true ≡ false = ap is_hundred same in let e : ⊥ = cc in e)

-- a call that has ended is not later
ended_is_not_later : (o : Outcome) (s : Store) → o ≡ Ended s → o ≢ Later
ended_is_not_later o s ended is_later = absurd (let e : ⊥ = cc in e)

-- both have ended at the sum of their bounds
pub one_bound : CallsAreSettled → (p : Program) (sub : Sub) → AreDerivedAtOneBound p sub → AreDerived p sub
one_bound settled p sub law n m s t s' t' from_s from_t first second =
    let at_both = settled p sub s n (n + m) (omega arith) (ended_is_not_later _ s' first) in
    let second_at_both = settled p sub t m (n + m) (omega arith) (ended_is_not_later _ t' second) in
    law (n + m) s t s' t' from_s from_t (at_both ∙ first) (second_at_both ∙ second)

-- ---- sequents with large numbers

-- X is the number that its name has
x_number : (v : Valuation) → as_number (value_of no_composites v entry_x) ≡ as_number (v (record { symbol = symbol.Entry 0; sort = Integer }))
x_number v = ap as_number (value-Variable no_composites v (record { symbol = symbol.Entry 0; sort = Integer }))

x_fits : (v : Valuation) → NumbersFit v → IsTrue (fits (as_number (value_of no_composites v entry_x)))
x_fits v fit = subst (λ n. IsTrue (fits n)) (sym (x_number v)) (fit (record { symbol = symbol.Entry 0; sort = Integer }))

at_least_is : (v : Valuation) (n : ℤ) → value_of no_composites v (x_at_least n) ≡ value.Truth (int_le n (as_number (value_of no_composites v entry_x)))
unfolding value_of_op
at_least_is v n = value-Infix no_composites v GreaterOrEqual entry_x (term.Number n) ∙ ap (λ k. value.Truth (int_le (as_number k) (as_number (value_of no_composites v entry_x)))) (value-Number no_composites v n)

at_most_is : (v : Valuation) (n : ℤ) → value_of no_composites v (x_at_most n) ≡ value.Truth (int_le (as_number (value_of no_composites v entry_x)) n)
unfolding value_of_op
at_most_is v n = value-Infix no_composites v LessOrEqual entry_x (term.Number n) ∙ ap (λ k. value.Truth (int_le (as_number (value_of no_composites v entry_x)) (as_number k))) (value-Number no_composites v n)

-- what fits lies from -2 ** 127 to 2 ** 127 - 1
fits_below : (m : ℤ) → IsTrue (fits m) → int_le m (pos 170141183460469231731687303715884105727) ≡ true
unfolding fits
fits_below (pos n) h = let below : nat_lt n 170141183460469231731687303715884105728 ≡ true = h in grind (arith, ints)
fits_below (negsuc n) h = refl

fits_above : (m : ℤ) → IsTrue (fits m) → int_le (negsuc 170141183460469231731687303715884105727) m ≡ true
unfolding fits
fits_above (pos n) h = refl
fits_above (negsuc n) h = let below : nat_lt n 170141183460469231731687303715884105728 ≡ true = h in grind (arith, ints)

fits_not_past : (m : ℤ) → IsTrue (fits m) → int_le (pos 170141183460469231731687303715884105728) m ≡ false
fits_not_past m h = let most = fits_below m h in grind (arith, ints)

pub most_in_bits : ValidInBits [] up_to_greatest
most_in_bits v respects fit known = at_most_is v (pos 170141183460469231731687303715884105727) ∙ ap value.Truth (fits_below (as_number (value_of no_composites v entry_x)) (x_fits v fit))

pub least_in_bits : ValidInBits [] from_least
least_in_bits v respects fit known = at_least_is v (negsuc 170141183460469231731687303715884105727) ∙ ap value.Truth (fits_above (as_number (value_of no_composites v entry_x)) (x_fits v fit))

pub none_in_bits : ValidInBits (past_greatest ∷ []) (term.Truth false)
none_in_bits v respects fit known =
    let past = sym (at_least_is v (pos 170141183460469231731687303715884105728)) ∙ All-head (λ hyp. Holds no_composites hyp v) past_greatest [] known in
    let not_past = fits_not_past (as_number (value_of no_composites v entry_x)) (x_fits v fit) in
    absurd (let e : value.Truth false ≡ value.Truth true = sym (ap value.Truth not_past) ∙ past in cc)

-- what X with this value refutes
refuted : (m : ℤ) (goal : Term) → value_of no_composites (where_x_is m (pos 0)) goal ≡ value.Truth false → ¬ Valid no_composites [] goal
refuted m goal fails valid =
    absurd (let e : value.Truth false ≡ value.Truth true = sym fails ∙ valid (where_x_is m (pos 0)) (sorted m (pos 0)) (All-nil (λ hyp. Holds no_composites hyp (where_x_is m (pos 0)))) in cc)

x_is : (m : ℤ) → as_number (value_of no_composites (where_x_is m (pos 0)) entry_x) ≡ m
x_is m = x_number (where_x_is m (pos 0))

pub no_most : (n : ℤ) → ¬ Valid no_composites [] (x_at_most n)
no_most n =
    refuted (n +ℤ pos 1) (x_at_most n)
    (at_most_is (where_x_is (n +ℤ pos 1) (pos 0)) n ∙ ap (λ m. value.Truth (int_le m n)) (x_is (n +ℤ pos 1)) ∙ ap value.Truth (let e : int_le (n +ℤ pos 1) n ≡ false = grind (arith, ints) in e))

pub no_least : (n : ℤ) → ¬ Valid no_composites [] (x_at_least n)
no_least n =
    refuted (n -ℤ pos 1) (x_at_least n)
    (at_least_is (where_x_is (n -ℤ pos 1) (pos 0)) n ∙ ap (λ m. value.Truth (int_le n m)) (x_is (n -ℤ pos 1)) ∙ ap value.Truth (let e : int_le n (n -ℤ pos 1) ≡ false = grind (arith, ints) in e))

pub most_not_valid : ¬ Valid no_composites [] up_to_greatest
most_not_valid = no_most (pos 170141183460469231731687303715884105727)

pub least_not_valid : ¬ Valid no_composites [] from_least
least_not_valid = no_least (negsuc 170141183460469231731687303715884105727)

-- X is 2 ** 127
abbrev at_limit : Valuation
at_limit = where_x_is (pos 170141183460469231731687303715884105728) (pos 0)

limit_is_past : Holds no_composites past_greatest at_limit
limit_is_past = at_least_is at_limit (pos 170141183460469231731687303715884105728) ∙ ap (λ m. value.Truth (int_le (pos 170141183460469231731687303715884105728) m)) (x_is (pos 170141183460469231731687303715884105728))

pub some_past : ¬ Valid no_composites (past_greatest ∷ []) (term.Truth false)
some_past valid =
    let known = All-cons (λ hyp. Holds no_composites hyp at_limit) past_greatest [] limit_is_past (All-nil (λ hyp. Holds no_composites hyp at_limit)) in
    absurd (let e : value.Truth false ≡ value.Truth true = sym (value-Truth no_composites at_limit false) ∙ valid at_limit (sorted (pos 170141183460469231731687303715884105728) (pos 0)) known in cc)

-- ---- further turns

-- something is given the value of Y, and then Y another value
abbrev passed : (target value : VarId) → Effect
passed target value = effects.next (effects.assign (Some target) ((place 6 12, y) ∷ []) (place 6 7)) (effects.next (effects.assign (Some y) ((place 7 12, value) ∷ []) (place 7 7)) effects.nothing)

-- the same, by what names denote
abbrev passed_by : VarId → List CoreName → List CoreName → Effect
passed_by target first second =
    effects.next (effects.assign (Some target) (filter_map read_of (first ++ [])) (place 6 7)) (effects.next (effects.assign (Some y) (filter_map read_of (second ++ [])) (place 7 7)) effects.nothing)

module _ (target value : VarId) where
  -- Y, or what Y is given
  abbrev FromEither : VarId → Type 0
  FromEither v = (v ≡ y) ⊎ (v ≡ value)

  only_y : (v : VarId) → Lambda (passed target value) v (place 6 7) → v ≡ y
  only_y v (inl first) = sym ((lists.same_is y v).0 (sym (lists.or_none (1 == v.0)) ∙ first.2))
  only_y v (inr (w, flow, inl second)) = absurd (let e : 7 ≡ 6 = ap (λ (p : Place). p.line) second.1 in cc)
  only_y v (inr (w, flow, inr (u, more, none))) = absurd none

  y_comes : Lambda (passed target value) y (place 6 7)
  y_comes = inl (refl, refl, refl)

  -- what comes to one of these in a turn is one of them
  turn_from : (u v : VarId) → FromEither v → MayFlow (passed target value) u v → FromEither u
  turn_from u v one (w, inl first, rest) = inl (sym ((lists.same_is y u).0 (sym (lists.or_none (1 == u.0)) ∙ first.1)))
  turn_from u v one (w, inr kept, (t, inl second, is)) = inr (kept.1 ∙ sym ((lists.same_is value w).0 (sym (lists.or_none (value.0 == w.0)) ∙ second.1)))
  turn_from u v one (w, inr kept, (t, inr past, is)) = subst FromEither (sym (kept.1 ∙ past.1 ∙ is)) one

-- `X := Y; Y := Z`
abbrev passing : Effect
passing = passed x z

passing_is : effect passing_on ≡ passing
passing_is = ap₂ (passed_by x) (fold-Name names_step (local_y_at 6 12)) (fold-Name names_step (loops.z_at 7 12))

-- Y or Z
abbrev FromLocals : VarId → Type 0
FromLocals = FromEither x z

turns_from : (u v : VarId) → FromLocals v → Steps (MayFlow passing) u v → FromLocals u
turns_from u v one stay = one
turns_from u v one (advance {v = w} turn more) = turn_from x z u w (turns_from w v one more) turn

-- Z comes to Y in a turn, and Y to X
z_to_y : MayFlow passing z y
z_to_y = (z, inr (refl, refl), (y, inl (refl, refl), refl))

y_to_x : (value : VarId) → MayFlow (passed x value) y x
y_to_x value = (x, inl (refl, refl), (x, inr (refl, refl), refl))

-- some turns lead from it to Y
turns_to_y : (v : VarId) → FromLocals v → Steps (MayFlow passing) v y
turns_to_y v (inl is) = subst (λ u. Steps (MayFlow passing) u y) (sym is) stay
turns_to_y v (inr is) = subst (λ u. Steps (MayFlow passing) u y) (sym is) (advance z_to_y stay)

pub comes_once : (v : VarId) → Lambda (effect passing_on) v (place 6 7) ↔ (v ≡ y)
comes_once v = subst (λ e. Lambda e v (place 6 7) ↔ (v ≡ y)) (sym passing_is) (only_y x z v, λ is. subst (λ u. Lambda passing u (place 6 7)) (sym is) (y_comes x z))

-- the loop as an effect, with what its test reads
abbrev tested : List Read → Effect → Effect
tested reads body = effects.repeat reads body (place 5 4)

in_turns : (reads : List Read) (v : VarId) → Lambda (tested reads passing) v (place 6 7) → FromLocals v
in_turns reads v (u, turns, inl test) = absurd (let e : 5 ≡ 6 = ap (λ (p : Place). p.line) test.0 in cc)
in_turns reads v (u, turns, inr body) = turns_from v u (inl (only_y x z u body)) turns

-- what the test reads
abbrev test_reads : List Read
test_reads = reads_of (Name (true_at 5 10))

pub comes_by_turns : (v : VarId) → Lambda (effect passing_turn_by_turn) v (place 6 7) ↔ FromLocals v
comes_by_turns v = subst (λ e. Lambda (tested test_reads e) v (place 6 7) ↔ FromLocals v) (sym passing_is) (in_turns test_reads v, λ one. (y, turns_to_y v one, inr (y_comes x z)))

in_endless : (v : VarId) → Lambda (effects.endless passing) v (place 6 7) → FromLocals v
in_endless v (u, turns, body) = turns_from v u (inl (only_y x z u body)) turns

pub comes_without_end : (v : VarId) → Lambda (effect passing_without_end) v (place 6 7) ↔ FromLocals v
comes_without_end v = subst (λ e. Lambda (effects.endless e) v (place 6 7) ↔ FromLocals v) (sym passing_is) (in_endless v, λ one. (y, turns_to_y v one, y_comes x z))

-- `X := Y; Y := I`, for I between these bounds
abbrev counted : Effect → Effect
counted body = effects.count i (Some ((place 5 33, x) ∷ [])) body (place 5 4)

parameter_is : effect passing_parameter ≡ passed x i
parameter_is = ap₂ (passed_by x) (fold-Name names_step (y_at 6 12)) (fold-Name names_step (i_at 7 12))

pub renewed_once : (v : VarId) → Lambda (effect passing_parameter) v (place 6 7) ↔ (v ≡ y)
renewed_once v = subst (λ e. Lambda e v (place 6 7) ↔ (v ≡ y)) (sym parameter_is) (only_y x i v, λ is. subst (λ u. Lambda (passed x i) u (place 6 7)) (sym is) (y_comes x i))

counted_is : effect passing_up_to_x ≡ counted (passed x i)
counted_is =
    ap₂ (λ low high. effects.count i (Some (filter_map read_of low ++ filter_map read_of high)) (effect passing_parameter) (place 5 4)) (fold-Number names_step (pos 1) (place 5 28)) (fold-Name names_step (flags.x_at 5 33))
    ∙ ap counted parameter_is

counted_from : (u v : VarId) → FromEither x i v → Steps (Keeping i (MayFlow (passed x i))) u v → FromEither x i u
counted_from u v one stay = one
counted_from u v one (advance {v = w} (inl kept) more) = subst (FromEither x i) (sym kept.1) (counted_from w v one more)
counted_from u v one (advance {v = w} (inr turn) more) = turn_from x i u w (counted_from w v one more) turn.1

-- I has its value from X
from_bounds : (u v : VarId) → FromEither x i v → Given (Some i) ((place 5 33, x) ∷ []) u v → (u ≡ y) ⊎ (u ≡ x)
from_bounds u v one (inl read) = inr (sym ((lists.same_is x u).0 (sym (lists.or_none (0 == u.0)) ∙ read.1)))
from_bounds u v (inl is) (inr kept) = inl (kept.1 ∙ is)
from_bounds u v (inr is) (inr kept) = absurd (let other = subst (λ w. is_same w (Some i) ≡ false) is kept.0 in cc)

in_count : (v : VarId) → Lambda (counted (passed x i)) v (place 6 7) → (v ≡ y) ⊎ (v ≡ x)
in_count v (inl bounds) = absurd (let e : 5 ≡ 6 = ap (λ (p : Place). p.line) bounds.0 in cc)
in_count v (inr (u, w, given, turns, body)) = from_bounds v u (counted_from u w (inl (only_y x i w body)) turns) given

-- I comes to Y in a turn
i_to_y : MayFlow (passed x i) i y
i_to_y = (i, inr (refl, refl), (y, inl (refl, refl), refl))

y_counts : Lambda (counted (passed x i)) y (place 6 7)
y_counts = inr (y, y, inr (refl, refl), stay, y_comes x i)

x_counts : Lambda (counted (passed x i)) x (place 6 7)
x_counts = inr (i, y, inl (refl, refl), advance (inr (refl, i_to_y)) stay, y_comes x i)

counts_from : (v : VarId) → (v ≡ y) ⊎ (v ≡ x) → Lambda (counted (passed x i)) v (place 6 7)
counts_from v one = ⊎_elim (λ is. subst (λ u. Lambda (counted (passed x i)) u (place 6 7)) (sym is) y_counts) (λ is. subst (λ u. Lambda (counted (passed x i)) u (place 6 7)) (sym is) x_counts) one

pub comes_by_count : (v : VarId) → Lambda (effect passing_up_to_x) v (place 6 7) ↔ ((v ≡ y) ⊎ (v ≡ x))
comes_by_count v = subst (λ e. Lambda e v (place 6 7) ↔ ((v ≡ y) ⊎ (v ≡ x))) (sym counted_is) (in_count v, counts_from v)

to_y_only : (value v : VarId) → Mu (passed x value) (place 7 7) v → v ≡ y
to_y_only value v (inl (u, first, flow)) = absurd (let e : 6 ≡ 7 = ap (λ (p : Place). p.line) first.0 in cc)
to_y_only value v (inr (inl (u, second, is))) = sym is ∙ sym ((lists.same_is y u).0 second.1)
to_y_only value v (inr (inr none)) = absurd none

to_y : (value : VarId) → Mu (passed x value) (place 7 7) y
to_y value = inr (inl (y, (refl, refl), refl))

once : (value v : VarId) → Mu (passed x value) (place 7 7) v ↔ (v ≡ y)
once value v = (to_y_only value v, λ is. subst (Mu (passed x value) (place 7 7)) (sym is) (to_y value))

pub leads_once : (v : VarId) → Mu (effect passing_on) (place 7 7) v ↔ (v ≡ y)
leads_once v = subst (λ e. Mu e (place 7 7) v ↔ (v ≡ y)) (sym passing_is) (once z v)

pub leads_by_turns : Mu (effect passing_turn_by_turn) (place 7 7) x
leads_by_turns = subst (λ e. Mu (tested test_reads e) (place 7 7) x) (sym passing_is) (inr (inl (y, to_y z, inl (inl (advance (y_to_x z) stay)))))

pub leads_without_end : Mu (effect passing_without_end) (place 7 7) x
leads_without_end = subst (λ e. Mu (effects.endless e) (place 7 7) x) (sym passing_is) (inl (y, to_y z, inl (refl, advance (y_to_x z) stay)))

pub parameter_leads_once : (v : VarId) → Mu (effect passing_parameter) (place 7 7) v ↔ (v ≡ y)
parameter_leads_once v = subst (λ e. Mu e (place 7 7) v ↔ (v ≡ y)) (sym parameter_is) (once i v)

pub leads_by_count : Mu (effect passing_up_to_x) (place 7 7) x
leads_by_count = subst (λ e. Mu e (place 7 7) x) (sym counted_is) (refl, inr (inl (y, to_y i, refl, inl (advance (inr (refl, y_to_x i)) stay))))
