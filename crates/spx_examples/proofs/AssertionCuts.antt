-- The trees and the verification conditions of a procedure with an `assert` in an arm.
use Rattle.std.proofs.Common.{◌≡◌, ℕ, ◌+◌, pos, List, [], ◌∷◌, ◌++◌, None, Ok, map, refl, ap, ap₂, ◌∙◌}
use Rattle.std.specs.List.{flat_map}
use Rattle.std.specs.Fmt.{digits}
use denote.Hole.Carrier.{out, fold, shown, hidden}
use denote.Hole.Rolled.{depth}
use Rattle.spx_text.specs.declared.place.Place.{Place}
use Rattle.spx_tree.specs.declared.expression.InfixOp.TheVariants as op
use Rattle.spx_tree.specs.declared.statement.AssertionKind.TheVariants as assertion
use Rattle.spx_core.specs.declared.expression.CoreExpr.TheVariants as expr
use Rattle.spx_core.specs.declared.entity.TheConstants.{INTEGER}
use Rattle.spx_core.specs.declared.entity.VarId.{VarId}
use Rattle.spx_core.specs.declared.name.CoreName.{CoreName}
use Rattle.spx_core.specs.declared.program.Program.{Program}
use Rattle.spx_core.specs.declared.rule.ExprType.TheVariants.{Of}
use Rattle.spx_core.specs.Judged.{expr_step, judged, typing}
use Rattle.spx_core.specs.Uses.{variable_of}
use Rattle.spx_core.proofs.Callers.Expressions.{fold-Name, fold-Number, fold-Infix}
use Rattle.spx_core.specs.declared.statement.CoreStmt.TheVariants as stmt
use Rattle.spx_core.specs.Commands.{Command, Skip, Then, Choose, Assertion, commands}
use Rattle.spx_term.specs.declared.condition.CondKind.TheVariants as kind
use Rattle.spx_term.specs.declared.term.TermOp.TheVariants as sign
use Rattle.spx_term.specs.declared.term.TermPrefix.TheVariants.{Not}
use Rattle.spx_term.specs.declared.term.Term.{Term, out-Term}
use Rattle.spx_term.specs.declared.term.Term.TheBlock.{the_depth, shown-the_row-Term-0}
use Rattle.spx_term.specs.declared.term.Term.TheVariants as term
use Rattle.spx_term.specs.Conjuncts.{conjuncts, conjuncts-Infix}
use Rattle.spx_term.specs.Equality.{same_by, same_term}
use Rattle.spx_term.specs.Steps.{Tree, Cut, Claim, assume_all, check, Assign, claims_of, substituted_step, tidy, without_doubles}
use Rattle.spx_term.proofs.Terms as terms
use Rattle.spx_meaning.specs.Literals.{literal, literal_in}
use Rattle.spx_formula.specs.Terms.{entry_term, literal_or, named, term_of, term_with, term_with-Infix, term_with-Name, term_with-Number}
use Rattle.spx_paths.specs.Walks.{arrivals, cut_arrivals, cuts, cut_facts, ending, path_count, start_tree, trees_of, walk}
use Rattle.spx_paths.specs.Conditions.{conditions_of}
use Rattle.spx_examples.specs.Assertions.{asserting_in_arm as sub, asserted_in_arm, entry_is_kept, entry_is_positive, is_positive, kept_at_end, kept_from_assert, kept_past_arm, lies_in_integer, now_is_kept, now_is_positive, program_of, tree_from_assert, tree_from_start, y_now}
use Rattle.spx_examples.specs.Flag.{x_at as import_at}
use Rattle.spx_examples.specs.Increment.{place, x_at, entry_below, entry_x, known_entry}
use Rattle.spx_examples.specs.Next.{below_hundred, below_now, closing, forked, x_now}
use Rattle.spx_examples.specs.Variants.{flag_with_pre, flag_with_pre_program}
use Rattle.spx_examples.proofs.AssertionConditions.{asserted_is, kept_goal, positive_goal, term_of_kept, term_of_positive}
use Rattle.spx_examples.proofs.NextConditions.{tested_below}
use Rattle.spx_examples.proofs.Statements.{assertion_is, if_is, operating}
use Rattle.spx_examples.proofs.Successor.{judged_x}
use Rattle.spx_examples.proofs.Sums.{before_number, entry_on_entry, in_integer, now_name, now_x, on_entry, x_on_entry}
use Rattle.spx_examples.proofs.Trees.{conditions_from, trees_are}

abbrev p : Program
p = program_of sub

-- its statements
abbrev body : Command
body = Then (Choose (place 5 4) below_hundred (Then (Assertion assertion.Assert (place 6 11) (is_positive 6 18)) Skip) Skip) Skip

body_is : commands sub.statements ≡ body
body_is =
    if_is (place 5 4) below_hundred (stmt.Assertion assertion.Assert (place 6 11) (is_positive 6 18) ∷ []) closing
    ∙ ap (λ c. Then (Choose (place 5 4) below_hundred c Skip) Skip) (assertion_is assertion.Assert (place 6 11) (is_positive 6 18))

-- ---- trees

-- `X > 0` is its own only part, of the value now and of that on entry
positive_parts : (line column : ℕ) → conjuncts (term_of p (entry_term p sub) (is_positive line column)) ≡ now_is_positive ∷ []
positive_parts line column = ap conjuncts (term_of_positive sub refl line column) ∙ conjuncts-Infix sign.Greater now_x (term.Number (pos 0))

-- where a variable of type `Integer` has this term for both values
module _ (value : VarId → Term) (name : CoreName) (is : judged (expr.Name name) ≡ Ok (typing (Of INTEGER.base) None name.name.place)) (at zero : Place) where
  abbrev its_value : Term
  its_value = named value (variable_of name.entity)

  positive_is_not : literal (expr.Infix op.Greater at (expr.Name name) (expr.Number (pos 0) zero)) ≡ None
  positive_is_not = ap literal_in (fold-Infix expr_step op.Greater at (expr.Name name) (expr.Number (pos 0) zero) ∙ ap₂ (operating op.Greater at) is (fold-Number expr_step (pos 0) zero))

  positive_of_value : term_with value value (expr.Infix op.Greater at (expr.Name name) (expr.Number (pos 0) zero)) ≡ term.Infix sign.Greater its_value (term.Number (pos 0))
  positive_of_value =
      term_with-Infix value value op.Greater at (expr.Name name) (expr.Number (pos 0) zero)
      ∙ ap₂ (λ l t. literal_or l (term.Infix sign.Greater t (term_with value value (expr.Number (pos 0) zero)))) positive_is_not (term_with-Name value value name ∙ ap (λ j. literal_or (literal_in j) its_value) is)
      ∙ ap (term.Infix sign.Greater its_value) (term_with-Number value value (pos 0) zero)

  parts_of_value : conjuncts (term_with value value (expr.Infix op.Greater at (expr.Name name) (expr.Number (pos 0) zero))) ≡ term.Infix sign.Greater its_value (term.Number (pos 0)) ∷ []
  parts_of_value = ap conjuncts positive_of_value ∙ conjuncts-Infix sign.Greater its_value (term.Number (pos 0))

pre_parts : conjuncts (term_with (entry_term p sub) (entry_term p sub) (is_positive 3 9)) ≡ entry_is_positive ∷ []
pre_parts = parts_of_value (entry_term p sub) (x_at 3 9) (judged_x 3 9) (place 3 11) (place 3 13)

abbrev last : ℕ → Tree
last = ending p sub

last_is : last 0 ≡ kept_at_end
last_is = asserted_is kind.Post (place 3 16) _ sign.Equal now_x entry_x Cut (term_of_kept sub refl 3 21) refl

walked : walk p sub (commands sub.statements) last last 0 ≡ forked (check kind.Assert (place 6 11) (now_is_positive ∷ []) Cut) kept_at_end
walked =
    ap (λ c. walk p sub c last last 0) body_is
    ∙ tested_below (sub ∷ []) (walk p sub (Then (Assertion assertion.Assert (place 6 11) (is_positive 6 18)) Skip) last last) last 0
    ∙ ap₂ (λ parts end. forked (check kind.Assert (place 6 11) parts Cut) end) (positive_parts 6 18) last_is

start_is : start_tree p sub ≡ tree_from_start
start_is = ap₂ (λ parts rest. Assign now_name entry_x (assume_all (in_integer now_x ++ parts) rest)) (positive_parts 3 9) walked

cuts_are : cuts p sub [] body last last ≡ tree_from_assert ∷ []
cuts_are =
    ap₂ (λ pre known. assume_all (in_integer now_x ++ in_integer entry_x ++ pre ++ known) (last 0) ∷ []) pre_parts (positive_parts 6 18)
    ∙ ap (λ end. assume_all (lies_in_integer now_x ++ known_entry ++ entry_is_positive ∷ now_is_positive ∷ []) end ∷ []) last_is

pub two_trees : trees_of p sub ≡ tree_from_start ∷ tree_from_assert ∷ []
two_trees = trees_are p sub body tree_from_start (tree_from_assert ∷ []) body_is start_is cuts_are

pub three_paths : path_count sub ≡ 3
three_paths = ap (λ c. arrivals c 1 1 + cut_arrivals c 1 1) body_is

-- ---- what is known after a cut

pub import_known : cut_facts flag_with_pre_program flag_with_pre [] ≡ lies_in_integer x_now ++ lies_in_integer y_now ++ now_is_positive ∷ []
import_known =
    ap (λ pre. lies_in_integer x_now ++ lies_in_integer y_now ++ pre)
    (parts_of_value (entry_term flag_with_pre_program flag_with_pre) (import_at 3 9) (fold-Name expr_step (import_at 3 9)) (place 3 11) (place 3 13))

-- ---- conditions

-- what is known in the arm, past it, and from the `assert` on
abbrev known_in_arm : List Term
known_in_arm = known_entry ++ entry_is_positive ∷ entry_below (pos 100) ∷ []

abbrev known_past_arm : List Term
known_past_arm = known_entry ++ entry_is_positive ∷ term.Prefix Not (entry_below (pos 100)) ∷ []

abbrev known : List Term
known = lies_in_integer x_now ++ known_entry ++ entry_is_positive ∷ now_is_positive ∷ []

-- no two facts are equal
distinct_in_arm : without_doubles known_in_arm ≡ known_in_arm
unfolding same_term same_by out-Term out the_depth depth fold shown-the_row-Term-0 shown hidden
distinct_in_arm = refl

distinct_past_arm : without_doubles known_past_arm ≡ known_past_arm
unfolding same_term same_by out-Term out the_depth depth fold shown-the_row-Term-0 shown hidden
distinct_past_arm = refl

distinct_from_assert : without_doubles known ≡ known
unfolding same_term same_by out-Term out the_depth depth fold shown-the_row-Term-0 shown hidden
distinct_from_assert = refl

below_on_entry : on_entry below_now ≡ entry_below (pos 100)
below_on_entry = before_number sign.Less now_x entry_x (pos 100) x_on_entry

-- `X > 0` and another fact, taken back to the start
facts_on_entry : (t u : Term) → on_entry t ≡ u → map on_entry (in_integer now_x ++ now_is_positive ∷ t ∷ []) ≡ known_entry ++ entry_is_positive ∷ u ∷ []
facts_on_entry t u is = ap₂ (λ (ts us : List Term). ts ++ us) entry_on_entry (ap₂ (λ (s t : Term). s ∷ t ∷ []) positive_goal is)

in_arm : without_doubles (map on_entry (in_integer now_x ++ now_is_positive ∷ below_now ∷ [])) ≡ known_in_arm
in_arm = ap without_doubles (facts_on_entry below_now _ below_on_entry) ∙ distinct_in_arm

past_arm : without_doubles (map on_entry (in_integer now_x ++ now_is_positive ∷ term.Prefix Not below_now ∷ [])) ≡ known_past_arm
past_arm = ap without_doubles (facts_on_entry (term.Prefix Not below_now) _ (terms.fold-Prefix (substituted_step now_name entry_x) Not below_now ∙ ap (term.Prefix Not) below_on_entry)) ∙ distinct_past_arm

-- the claims of both trees
abbrev three_claims : (in_arm past_arm from_assert : List Term) → (asserted kept : Term) → List Claim
three_claims in_arm past_arm from_assert asserted kept =
    record { kind = kind.Assert; place = place 6 11; hyps = in_arm; goals = asserted ∷ [] }
    ∷ record { kind = kind.Post; place = place 3 16; hyps = past_arm; goals = kept ∷ [] }
    ∷ record { kind = kind.Post; place = place 3 16; hyps = from_assert; goals = now_is_kept ∷ [] }
    ∷ []

claims_are : map tidy (flat_map claims_of (tree_from_start ∷ tree_from_assert ∷ [])) ≡ three_claims known_in_arm known_past_arm known entry_is_positive entry_is_kept
claims_are =
    ap₂ (λ first second. three_claims first second (without_doubles known) (on_entry now_is_positive) (on_entry now_is_kept)) in_arm past_arm
    ∙ ap (λ third. three_claims known_in_arm known_past_arm third (on_entry now_is_positive) (on_entry now_is_kept)) distinct_from_assert
    ∙ ap₂ (three_claims known_in_arm known_past_arm known) positive_goal kept_goal

pub conditions_are : conditions_of p sub ≡ asserted_in_arm ∷ kept_past_arm ∷ kept_from_assert ∷ []
unfolding digits
conditions_are = conditions_from p sub _ _ two_trees claims_are
