-- Programs on which weaker definitions of what holds of runs, and of the limit of bits, say something else; sequents and loops on which those of validity and flow do.
-- Annotations stand in line 3 from column 9 on, unless a comment says otherwise.
use Rattle.std.specs.Prelude.{◌≡◌, ℕ, ◌+◌, ℤ, pos, negsuc, Bool, true, false, List, [], ◌∷◌, ◌++◌, All, Option, Some, None, IsTrue, codes}
use Rattle.spx_num.specs.Widths.{fits}
use Rattle.spx_tree.specs.declared.expression.InfixOp.TheVariants as op
use Rattle.spx_tree.specs.declared.expression.MemberOp.TheVariants.{In}
use Rattle.spx_tree.specs.declared.expression.PrefixOp.TheVariants.{Minus}
use Rattle.spx_tree.specs.declared.statement.AssertionKind.TheVariants.{Check}
use Rattle.spx_tree.specs.declared.subprogram.WrittenMode.TheVariants as written
use Rattle.spx_core.specs.declared.entity.TheConstants.{INTEGER, NATURAL}
use Rattle.spx_core.specs.declared.entity.Entity.TheVariants as entity
use Rattle.spx_core.specs.declared.entity.Mode.TheVariants.{InOut}
use Rattle.spx_core.specs.declared.entity.SubId.{SubId}
use Rattle.spx_core.specs.declared.entity.VarId.{VarId}
use Rattle.spx_core.specs.declared.entity.VarKind.TheVariants.{Formal, Local}
use Rattle.spx_core.specs.declared.expression.CoreExpr.{CoreExpr}
use Rattle.spx_core.specs.declared.expression.CoreExpr.TheVariants as expr
use Rattle.spx_core.specs.declared.function.FunctionForm.TheVariants as form
use Rattle.spx_core.specs.declared.name.CoreName.{CoreName}
use Rattle.spx_core.specs.declared.name.Reference.{Reference}
use Rattle.spx_core.specs.declared.program.CoreUnit.TheVariants as core_unit
use Rattle.spx_core.specs.declared.program.Program.{Program}
use Rattle.spx_core.specs.declared.statement.CoreChoice.{CoreChoice}
use Rattle.spx_core.specs.declared.statement.CoreDecl.TheVariants.{Variables}
use Rattle.spx_core.specs.declared.statement.CoreStmt.TheVariants as stmt
use Rattle.spx_core.specs.declared.subprogram.Sub.{Sub}
use Rattle.spx_core.specs.Commands.{Command, Skip, Set, Then, Choose, Select, When, Last, Assertion, Repeat, Leave, Tested, Endless}
use Rattle.spx_core.specs.Dependency.{derives, exports}
use Rattle.spx_core.specs.Formals.{is_formal}
use Rattle.spx_term.specs.declared.term.Name.{Name}
use Rattle.spx_term.specs.declared.term.Term.{Term}
use Rattle.spx_term.specs.declared.term.Term.TheVariants as term
use Rattle.spx_term.specs.declared.term.TermOp.TheVariants.{GreaterOrEqual}
use Rattle.spx_term.specs.declared.value.Value.{Value}
use Rattle.spx_term.specs.Meaning.{as_number, Holds, Respects, Valuation}
use Rattle.spx_examples.specs.Names.{target_to}
use Rattle.spx_examples.specs.Types.{no_composites}
use Rattle.spx_meaning.specs.Bits.{computed, is_too_large}
use Rattle.spx_meaning.specs.Frames.{Frame, around}
use Rattle.spx_meaning.specs.Laws.{Agree, Start}
use Rattle.spx_meaning.specs.Limits.{call_passes, passes}
use Rattle.spx_meaning.specs.Runs.{Outcome, Ended, call, entry_of}
use Rattle.spx_meaning.specs.Stores.{Store, look}
use Rattle.spx_examples.specs.Assertions.{checking, doing, post_on, program_of, promising, step_and_check}
use Rattle.spx_examples.specs.CountedLoops.{before, between_numbers, each, i_at, up_to_x, with_parameter}
use Rattle.spx_examples.specs.Flag.{flag, formal_of, named, y}
use Rattle.spx_examples.specs.Increment.{place, word, x_at, x_named, integer_at, inc_id, increment, entry_x}
use Rattle.spx_examples.specs.Loops.{endless, only, passing_on, step_in}
use Rattle.spx_examples.specs.LoopText.{loop_sub}
use Rattle.spx_examples.specs.Next.{below_hundred}
use Rattle.spx_examples.specs.Refused.{inc_without_pre, increment_without_pre}
use Rattle.spx_examples.specs.Sequents.{x_at_most}
use Rattle.spx_examples.specs.VariableRules.{z, z_entity}
use Rattle.spx_examples.specs.Variants.{number, only_null, out_program, out_sub, out_x_at}

-- X has this value
abbrev pub x_of : ℤ → Store
x_of m = number m ∷ []

-- ---- annotations with large numbers

-- `X ** k`, at the line and column of its name
abbrev pub power_at : ℕ → ℕ → ℤ → CoreExpr
power_at line column k = expr.Infix op.Power (place line (column + 2)) (expr.Name (x_at line column)) (expr.Number k (place line (column + 5)))

abbrev pub power : ℤ → CoreExpr
power = power_at 3 9

-- `X ** 127 > 0`
abbrev pub positive_power_at : ℕ → ℕ → CoreExpr
positive_power_at line column = expr.Infix op.Greater (place line (column + 9)) (power_at line column (pos 127)) (expr.Number (pos 0) (place line (column + 11)))

-- `X ** 64 * X ** 63`
abbrev pub product : CoreExpr
product = expr.Infix op.Multiply (place 3 17) (power (pos 64)) (power_at 3 19 (pos 63))

-- `- X ** 127`
abbrev pub negated_power : CoreExpr
negated_power = expr.Prefix Minus (place 3 9) (power_at 3 11 (pos 127))

-- `X ** 127 / X`
abbrev pub quotient : CoreExpr
quotient = expr.Infix op.Divide (place 3 18) (power (pos 127)) (expr.Name (x_at 3 20))

-- `X > 2`
abbrev pub above_two : ℕ → ℕ → CoreExpr
above_two line column = expr.Infix op.Greater (place line (column + 2)) (expr.Name (x_at line column)) (expr.Number (pos 2) (place line (column + 4)))

-- `X > 2 and then X ** 127 > 0`
abbrev pub guarded_power : CoreExpr
guarded_power = expr.Infix op.AndThen (place 3 15) (above_two 3 9) (positive_power_at 3 24)

-- `Natural`
abbrev pub natural_named : Reference
natural_named = named (record { name = word (codes "Natural") 3 21; entity = Some (entity.TypeName NATURAL) })

-- `X ** 127 in Natural`
abbrev pub power_in_natural : CoreExpr
power_in_natural = expr.InType In (place 3 18) (power (pos 127)) natural_named

-- `X in 3 .. X ** 127`
abbrev pub up_to_power : CoreExpr
up_to_power = expr.InRange In (place 3 11) (expr.Name (x_at 3 9)) (expr.Number (pos 3) (place 3 14)) (power_at 3 19 (pos 127))

-- `X < 170141183460469231731687303715884105728`, which is 2 ** 127
abbrev pub below_limit : CoreExpr
below_limit = expr.Infix op.Less (place 3 11) (expr.Name (x_at 3 9)) (expr.Number (pos 170141183460469231731687303715884105728) (place 3 13))

-- `Integer (X ** 127)`
abbrev pub converted_power : CoreExpr
converted_power = expr.Applied (record { name = integer_at 3 9; form = form.Simple }) (place 3 17) (power_at 3 18 (pos 127))

-- where X has this value, 128 bits hold each number that the annotation computes, and it has that value
abbrev pub Computes : ℤ → CoreExpr → Value → Type 0
Computes m e v = (f : Frame) → computed f (x_of m) e ≡ Some v

-- where X has this value, they do not hold each
abbrev pub IsTooLarge : ℤ → CoreExpr → Type 0
IsTooLarge m e = (f : Frame) → is_too_large f (x_of m) e ≡ true

-- ---- runs that look at these, from X with this value

-- `null`, with the precondition `X ** 127 > 0`
abbrev pub wanting_power : Sub
wanting_power = record (doing only_null 7) { pre = Some (record { place = place 3 5; condition = positive_power_at 3 9 }) }

-- `X := X + 1`, with the postcondition `X ** 127 > 0`
abbrev pub promising_power : Sub
promising_power = promising (positive_power_at 3 10)

-- `X := X + 1`, and then `check X ** 127 > 0`
abbrev pub checking_power : Sub
checking_power = step_and_check (positive_power_at 7 14)

-- `check X > 2`, and then `check X ** 127 > 0`
abbrev pub checking_twice : Sub
checking_twice = doing (checking 5 (above_two 5 14) ∷ checking 6 (positive_power_at 6 14) ∷ []) 7

-- a call passes the limit, or does not, or ends so, at any bound
abbrev pub PassesLimit : Sub → ℤ → Type 0
PassesLimit sub m = (n : ℕ) → call_passes (program_of sub) n sub (x_of m) ≡ true

abbrev pub KeepsLimit : Sub → ℤ → Type 0
KeepsLimit sub m = (n : ℕ) → call_passes (program_of sub) n sub (x_of m) ≡ false

abbrev pub EndsFrom : Sub → ℤ → Outcome → Type 0
EndsFrom sub m outcome = (n : ℕ) → call (program_of sub) n sub (x_of m) ≡ outcome

-- `null` for an `out` formal X, which is left unset, with the postcondition `X ** 127 > 0`
abbrev pub unset_power : CoreExpr
unset_power = expr.Infix op.Greater (place 3 19) (expr.Infix op.Power (place 3 12) (expr.Name (out_x_at 3 10)) (expr.Number (pos 127) (place 3 15))) (expr.Number (pos 0) (place 3 21))

abbrev pub unset_and_power : Sub
unset_and_power = record (out_sub only_null) { post = Some (post_on unset_power) }

abbrev pub unset_program : Program
unset_program = record (out_program only_null) { subs = unset_and_power ∷ [] }

-- `while X < 100 loop check X ** 127 > 0; X := X + 1; end loop`
abbrev pub turns_with_power : Command
turns_with_power = Repeat (Tested (place 5 4) below_hundred) (Then (Assertion Check (place 6 11) (positive_power_at 6 17)) (only (step_in 7)))

-- a loop without end, and then `check X ** 127 > 0`
abbrev pub endless_then_power : Command
endless_then_power = Then endless (only (Assertion Check (place 6 8) (positive_power_at 6 14)))

-- `if X < 100 then check X ** 127 > 0; end if`
abbrev pub arm_with_power : Command
arm_with_power = Choose (place 5 4) below_hundred (only (Assertion Check (place 6 11) (positive_power_at 6 17))) Skip

-- the number as the one choice of the alternative in this line
abbrev pub choice_at : ℕ → ℤ → CoreChoice
choice_at line n = record { low = expr.Number n (place line 12); high = None; span = record { first = n; last = n } }

-- `case X is when 2 => check X ** 127 > 0; when 3 => null; when others => check X ** 127 > 0; end case`
abbrev pub case_with_power : Command
case_with_power =
    Select (place 5 4) (expr.Name (x_at 5 9))
    (When (Some (choice_at 6 (pos 2) ∷ [])) (only (Assertion Check (place 7 14) (positive_power_at 7 20)))
    (When (Some (choice_at 8 (pos 3) ∷ [])) (only Skip)
    (Last None (only (Assertion Check (place 11 14) (positive_power_at 11 20))))))

-- `loop exit; check X ** 127 > 0; end loop`
abbrev pub exit_before_power : Command
exit_before_power = Repeat Endless (Then (Leave (place 6 7)) (only (Assertion Check (place 7 11) (positive_power_at 7 17))))

-- `loop check X ** 127 > 0; exit; end loop`
abbrev pub power_before_exit : Command
power_before_exit = Repeat Endless (Then (Assertion Check (place 6 11) (positive_power_at 6 17)) (only (Leave (place 7 7))))

-- the first of these, and then `check X ** 127 > 0`
abbrev pub exit_then_power : Command
exit_then_power = Then exit_before_power (only (Assertion Check (place 9 8) (positive_power_at 9 14)))

-- `I ** 127 > 0`
abbrev pub parameter_power : CoreExpr
parameter_power = expr.Infix op.Greater (place 6 23) (expr.Infix op.Power (place 6 16) (expr.Name (i_at 6 14)) (expr.Number (pos 127) (place 6 19))) (expr.Number (pos 0) (place 6 25))

-- `for I in Positive range low .. high loop check I ** 127 > 0; end loop`, and whether its run passes the limit at this bound
abbrev pub each_checked : (low high : ℤ) → Command
each_checked low high = each false (between_numbers low high) (only (Assertion Check (place 6 11) parameter_power))

abbrev pub each_passes : ℕ → (low high : ℤ) → Bool
each_passes n low high = passes (around with_parameter flag (before (pos 0))) n (before (pos 0)) (each_checked low high)

-- the same loop without `range`
abbrev pub whole_type_passes : ℕ → Bool
whole_type_passes n = passes (around with_parameter flag (before (pos 0))) n (before (pos 0)) (each false None (only (Assertion Check (place 6 11) parameter_power)))

-- whether a run of this command passes the limit at this bound, from this value of X
abbrev pub passes_from : ℕ → ℤ → Command → Bool
passes_from n m c = passes (around increment_without_pre inc_without_pre (x_of m)) n (x_of m) c

-- ---- two procedures, of which the first is given
--
--     procedure Inc (X : in out Integer) ..
--
--     procedure Other (Y : in out Integer)
--     --# derives Y from Y;
--     is
--        Z : Integer;
--     begin
--        null;
--     end Other;

abbrev pub other_id : SubId
other_id = record { 0 = 1 }

-- `Y`, at its line and column
abbrev pub y_at : ℕ → ℕ → CoreName
y_at line column = record { name = word (codes "Y") line column; entity = Some (formal_of y InOut) }

-- `Z`, at its line and column
abbrev pub z_at : ℕ → ℕ → CoreName
z_at line column = record { name = word (codes "Z") line column; entity = Some z_entity }

abbrev pub other : Sub
other = record inc_without_pre {
  place = place 9 1;
  name = record { name = word (codes "Other") 9 11; entity = entity.Subprogram other_id; again = false };
  formal_part = Some (record {
    place = place 9 17;
    params = record { names = record { name = word (codes "Y") 9 18; entity = formal_of y InOut; again = false } ∷ []; mode = written.InOut (place 9 22); type_name = named (integer_at 9 29) } ∷ [];
  });
  derives = Some (record { place = place 10 5; items = record { null = None; exports = named (y_at 10 13) ∷ []; itself = None; imports = named (y_at 10 20) ∷ [] } ∷ [] });
  declarations = Variables (record { name = word (codes "Z") 12 4; entity = z_entity; again = false } ∷ []) (named (integer_at 12 8)) None ∷ [];
  statements = stmt.Null (place 14 4) ∷ [];
  end = place 15 1;
  end_name = Some (word (codes "Other") 15 5);
  vars = y ∷ z ∷ [];
  local_count = 1;
}

abbrev pub with_other : Sub → Program
with_other first = record increment {
  units = core_unit.Subprogram inc_id ∷ core_unit.Subprogram other_id ∷ [];
  vars = increment.vars ++ record { name = codes "Y"; kind = Formal InOut; type_id = INTEGER.id } ∷ record { name = codes "Z"; kind = Local; type_id = INTEGER.id } ∷ [];
  subs = first ∷ other ∷ [];
  bodies = inc_id ∷ other_id ∷ [];
}

-- The first procedure with the statement `name := X`. No text is resolved to one that names a variable of the other procedure there.
abbrev pub reaching : CoreName → Sub
reaching name = record inc_without_pre { statements = stmt.Assignment (target_to name) (expr.Name (x_at 6 9)) ∷ [] }

-- the values of X, Y and Z
abbrev pub all_of : Option Value → Option Value → Option Value → Store
all_of u v w = u ∷ v ∷ w ∷ []

-- weaker than `OthersAreKept`: only formals are kept
abbrev pub FormalsAreKept : Program → Sub → Type 0
FormalsAreKept p sub =
    (n : ℕ) (s s' : Store) → Start p sub s → call p n sub s ≡ Ended s' → (v : VarId) → IsTrue (is_formal v sub) → exports v sub ≡ false → look s' v ≡ look (entry_of p sub s) v

-- ---- `while X < 100 loop X := X + 1; end loop`, where X is derived from nothing

abbrev pub from_nothing : Sub
from_nothing = record loop_sub { derives = Some (record { place = place 2 5; items = record { null = None; exports = x_named 2 13 ∷ []; itself = None; imports = [] } ∷ [] }) }

-- `AreDerived` with one bound for both calls
abbrev pub AreDerivedAtOneBound : Program → Sub → Type 0
AreDerivedAtOneBound p sub =
    (n : ℕ) (s t s' t' : Store) → Start p sub s → Start p sub t → call p n sub s ≡ Ended s' → call p n sub t ≡ Ended t' →
    (y : VarId) → IsTrue (exports y sub) → Agree (λ x. IsTrue (derives x y sub)) s t → look s' y ≡ look t' y

-- ---- sequents with large numbers

-- 128 bits hold the number of each name
abbrev pub NumbersFit : Valuation → Type 0
NumbersFit v = (name : Name) → IsTrue (fits (as_number (v name)))

-- weaker than `Valid`: only valuations are asked whose numbers 128 bits hold
abbrev pub ValidInBits : List Term → Term → Type 0
ValidInBits hyps goal = (v : Valuation) → Respects no_composites v → NumbersFit v → All (λ hyp. Holds no_composites hyp v) hyps → Holds no_composites goal v

-- `X~ >= n`
abbrev pub x_at_least : ℤ → Term
x_at_least n = term.Infix GreaterOrEqual entry_x (term.Number n)

-- `X~ <= 170141183460469231731687303715884105727`, which is 2 ** 127 - 1
abbrev pub up_to_greatest : Term
up_to_greatest = x_at_most (pos 170141183460469231731687303715884105727)

-- `X~ >= -170141183460469231731687303715884105728`, which is -2 ** 127
abbrev pub from_least : Term
from_least = x_at_least (negsuc 170141183460469231731687303715884105727)

-- `X~ >= 170141183460469231731687303715884105728`
abbrev pub past_greatest : Term
past_greatest = x_at_least (pos 170141183460469231731687303715884105728)

-- ---- further turns

-- `loop X := Y; Y := Z; end loop`
abbrev pub passing_without_end : Command
passing_without_end = Repeat Endless passing_on

-- `X := Y; Y := I`
abbrev pub passing_parameter : Command
passing_parameter = Then (Set (target_to (x_at 6 7)) (expr.Name (y_at 6 12))) (only (Set (target_to (y_at 7 7)) (expr.Name (i_at 7 12))))

-- `for I in Positive range 1 .. X loop X := Y; Y := I; end loop`
abbrev pub passing_up_to_x : Command
passing_up_to_x = each false up_to_x passing_parameter
