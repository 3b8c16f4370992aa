-- Loops as commands, over variables of the type `Integer`: X, which is imported and exported, and locals Y and Z. A loop has its word in line 5, its test
-- there, and its body in the lines after it.
use Rattle.std.specs.Prelude.{ℕ, ℤ, pos, true, [], ◌∷◌, ◌++◌, Some, codes}
use Rattle.spx_tree.specs.declared.expression.InfixOp.TheVariants as op
use Rattle.spx_tree.specs.declared.statement.AssertionKind.TheVariants as assertion
use Rattle.spx_core.specs.declared.entity.VarId.{VarId}
use Rattle.spx_core.specs.declared.expression.CoreExpr.{CoreExpr}
use Rattle.spx_core.specs.declared.expression.CoreExpr.TheVariants as expr
use Rattle.spx_core.specs.declared.name.CoreName.{CoreName}
use Rattle.spx_core.specs.Commands.{Command, Skip, Set, Then, Choose, Assertion, Repeat, Tested}
use Rattle.spx_term.specs.declared.condition.CondKind.TheVariants as kind
use Rattle.spx_term.specs.declared.term.Term.{Term}
use Rattle.spx_term.specs.declared.term.Term.TheVariants as term
use Rattle.spx_term.specs.Steps.{Tree, Cut, Assign, assume_all, check}
use Rattle.spx_meaning.specs.Frames.{around}
use Rattle.spx_meaning.specs.Runs.{Outcome, run}
use Rattle.spx_formula.specs.Terms.{now}
use Rattle.spx_examples.specs.Assertions.{is_positive, lies_in_integer, now_is_positive}
use Rattle.spx_examples.specs.Increment.{place, word, x, x_at, successor, known_entry}
use Rattle.spx_examples.specs.Names.{target_to}
use Rattle.spx_examples.specs.Next.{below_hundred, forked, next_now, sum_checks, x_now}
use Rattle.spx_examples.specs.Operators.{true_at}
use Rattle.spx_examples.specs.Refused.{inc_without_pre, increment_without_pre}
use Rattle.spx_examples.specs.VariableRules.{z_entity}
use Rattle.spx_examples.specs.Variants.{local_y_at as y_at, number}

-- ---- loops

-- a statement, and no more
abbrev pub only : Command → Command
only statement = Then statement Skip

-- `X := X + 1`, in this line
abbrev pub step_in : ℕ → Command
step_in line = Set (target_to (x_at line 7)) (successor line 12)

-- `while X < 100 loop X := X + 1; end loop`
abbrev pub counting : Command
counting = Repeat (Tested (place 5 4) below_hundred) (only (step_in 6))

-- the same, `X := 98`, and the same again
abbrev pub counting_again : Command
counting_again = Then counting (Then (Set (target_to (x_at 8 4)) (expr.Number (pos 98) (place 8 9))) (only counting))

-- `while True loop null; end loop`
abbrev pub endless : Command
endless = Repeat (Tested (place 5 4) (expr.Name (true_at 5 10))) (only Skip)

-- what becomes of it at this bound, from this value of X
abbrev pub runs_from : ℕ → ℤ → Command → Outcome
runs_from n m c = run (around increment_without_pre inc_without_pre (number m ∷ [])) n (number m ∷ []) c

-- ---- flow

-- `Z`, at its line and column
abbrev pub z_at : ℕ → ℕ → CoreName
z_at line column = record { name = word (codes "Z") line column; entity = Some z_entity }

-- `Y > 0`
abbrev pub y_is_positive : CoreExpr
y_is_positive = expr.Infix op.Greater (place 5 12) (expr.Name (y_at 5 10)) (expr.Number (pos 0) (place 5 14))

-- `X := 1`
abbrev pub set_x : Command
set_x = Set (target_to (x_at 6 7)) (expr.Number (pos 1) (place 6 12))

-- `while Y > 0 loop X := 1; end loop`
abbrev pub deciding : Command
deciding = Repeat (Tested (place 5 4) y_is_positive) (only set_x)

-- the same, and then `Y := X`
abbrev pub copying_after : Command
copying_after = Then deciding (only (Set (target_to (y_at 8 4)) (expr.Name (x_at 8 9))))

-- the same with `Y := X` as the second statement of the body
abbrev pub copying_in : Command
copying_in = Repeat (Tested (place 5 4) y_is_positive) (Then set_x (only (Set (target_to (y_at 7 7)) (expr.Name (x_at 7 12)))))

-- `X := Y; Y := Z`
abbrev pub passing_on : Command
passing_on = Then (Set (target_to (x_at 6 7)) (expr.Name (y_at 6 12))) (only (Set (target_to (y_at 7 7)) (expr.Name (z_at 7 12))))

-- `while True loop X := Y; Y := Z; end loop`
abbrev pub passing_turn_by_turn : Command
passing_turn_by_turn = Repeat (Tested (place 5 4) (expr.Name (true_at 5 10))) passing_on

-- a variable that is none of these
abbrev pub m : VarId
m = record { 0 = 3 }

-- ---- cuts

-- `assert X > 0`, in this line
abbrev pub assert_in : ℕ → Command
assert_in line = Assertion assertion.Assert (place line 11) (is_positive line 18)

-- `while X < 100 loop assert X > 0; X := X + 1; end loop`
abbrev pub asserting : Command
asserting = Repeat (Tested (place 5 4) below_hundred) (Then (assert_in 6) (only (step_in 7)))

-- `if X < 100 then` this `end if`
abbrev pub where_below : Command → Command
where_below c = Choose (place 6 7) below_hundred (only c) Skip

-- `while X < 100 loop if X < 100 then assert X > 0; end if; end loop`
abbrev pub asserting_in_arm : Command
asserting_in_arm = Repeat (Tested (place 5 4) below_hundred) (only (where_below (assert_in 7)))

-- `while X < 100 loop if X < 100 then X := X + 1; end if; end loop`
abbrev pub branching : Command
branching = Repeat (Tested (place 5 4) below_hundred) (only (where_below (step_in 7)))

-- the same with `assert X > 0` after the `if`
abbrev pub branching_and_asserting : Command
branching_and_asserting = Repeat (Tested (place 5 4) below_hundred) (Then (where_below (step_in 7)) (only (assert_in 9)))

-- X and X~ lie in their type, and this is known too
abbrev pub from_cut_with : Term → Tree → Tree
from_cut_with known rest = assume_all (lies_in_integer x_now ++ known_entry ++ known ∷ []) rest

-- `X := X + 1`, in this line
abbrev pub counted : ℕ → Tree → Tree
counted line rest = check kind.Overflow (place line 14) sum_checks (check kind.Range (place line 14) sum_checks (Assign (now increment_without_pre x) next_now rest))

-- the tree from the cut of `counting`: neither its test nor anything from before it is known there
abbrev pub counting_from_cut : Tree → Tree
counting_from_cut rest = from_cut_with (term.Truth true) (counted 6 (forked Cut rest))

-- the tree from the cut of `asserting`, which comes to the `assert` again
abbrev pub asserting_from_cut : Tree → Tree
asserting_from_cut rest = from_cut_with now_is_positive (counted 7 (forked (check kind.Assert (place 6 11) (now_is_positive ∷ []) Cut) rest))
