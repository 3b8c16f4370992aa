-- The verification conditions of postconditions and `check` annotations.
use Rattle.std.proofs.Common.{◌≡◌, ℕ, ◌+◌, pos, true, false, if◌then◌else◌, List, [], ◌∷◌, ◌++◌, None, Ok, map, fold, refl, ap, ap₂, ◌∙◌}
use Rattle.std.specs.Fmt.{digits}
use Rattle.spx_text.specs.declared.place.Place.{Place}
use Rattle.spx_tree.specs.declared.expression.InfixOp.TheVariants as op
use Rattle.spx_tree.specs.declared.statement.AssertionKind.TheVariants as assertion
use Rattle.spx_core.specs.declared.entity.TheConstants.{BOOLEAN, INTEGER}
use Rattle.spx_core.specs.declared.expression.CoreExpr.{CoreExpr}
use Rattle.spx_core.specs.declared.expression.CoreExpr.TheVariants as expr
use Rattle.spx_core.specs.declared.program.Program.{Program}
use Rattle.spx_core.specs.declared.rule.ExprType.TheVariants.{Of}
use Rattle.spx_core.specs.declared.subprogram.Sub.{Sub}
use Rattle.spx_core.specs.Judged.{expr_step, judged, typing}
use Rattle.spx_core.proofs.Callers.Expressions.{fold-Entry, fold-Number, fold-Infix}
use Rattle.spx_term.specs.declared.condition.CondKind.{CondKind}
use Rattle.spx_term.specs.declared.condition.CondKind.TheVariants as kind
use Rattle.spx_term.specs.declared.term.Name.{Name}
use Rattle.spx_term.specs.declared.term.Sort.TheVariants.{Integer}
use Rattle.spx_term.specs.declared.term.Symbol.TheVariants as symbol
use Rattle.spx_term.specs.declared.term.TermOp.{TermOp}
use Rattle.spx_term.specs.declared.term.TermOp.TheVariants as sign
use Rattle.spx_term.specs.declared.term.Term.{Term}
use Rattle.spx_term.specs.declared.term.Term.TheVariants as term
use Rattle.spx_term.specs.Conjuncts.{conjuncts, conjuncts-Infix, parts_of}
use Rattle.spx_term.specs.Equality.{same_by}
use Rattle.spx_term.specs.Plain.{is_among}
use Rattle.spx_term.specs.Steps.{Tree, Cut, Claim, check, substituted, substituted_step, claims_of, with_new, without_doubles, tidy}
use Rattle.spx_term.specs.Equality.{same_name}
use Rattle.spx_term.proofs.Terms as terms
use Rattle.spx_meaning.specs.Literals.{literal, literal_in}
use Rattle.spx_formula.specs.Terms.{now_term, entry_term, literal_or, term_of, term_with-Entry, term_with-Infix, term_with-Number}
use Rattle.spx_paths.specs.Walks.{asserted, ending, start_tree, walk}
use Rattle.spx_paths.specs.Conditions.{conditions_of}
use Rattle.spx_examples.specs.Assertions.{entry_at, after_entry, is_kept, is_next, is_positive, promising, program_of, only_checking, checking_both, now_is_kept, now_is_positive, next_is_next, entry_is_positive, entry_is_kept, promised_conditions, check_condition, kept_condition, both_condition, kept_after_both}
use Rattle.spx_examples.specs.Increment.{place, x_at, entry_x, next_x, known_entry, sum_goals}
use Rattle.spx_examples.proofs.IncrementRules.{inc_command}
use Rattle.spx_examples.proofs.Statements.{assertion_is, operating}
use Rattle.spx_examples.proofs.Successor.{judged_x}
use Rattle.spx_examples.proofs.Sums.{claims_with, entry_all_once, first_x, last_x, first_next, last_next, same_x, now_name, now_x, next_now, in_integer, on_entry, summed, path_from_entry, term_of_operation, walk_step, before_number, x_on_entry, entry_once, entry_on_entry, goals_on_entry, entry_taken, taken, first_is_new_on_entry, last_is_new_on_entry, next_on_entry}
use Rattle.spx_examples.proofs.Trees.{conditions_from, trees_are}
use Rattle.spx_examples.proofs.TermEquality.{is_first, is_later, is_new, other_op}

-- ---- terms

judged_entry : (line column : ℕ) → judged (entry_at line column) ≡ Ok (typing (Of INTEGER.base) None (place line column))
judged_entry line column = fold-Entry expr_step (x_at line column) true

judged_after : (line column : ℕ) → judged (after_entry line column) ≡ Ok (typing (Of INTEGER.base) None (place line (column + 3)))
judged_after line column =
    fold-Infix expr_step op.Add (place line (column + 3)) (entry_at line column) (expr.Number (pos 1) (place line (column + 5)))
    ∙ ap₂ (operating op.Add (place line (column + 3))) (judged_entry line column) (fold-Number expr_step (pos 1) (place line (column + 5)))

-- X is compared with what is not static
compared : (line column : ℕ) (e : CoreExpr) (at : Place) → judged e ≡ Ok (typing (Of INTEGER.base) None at) → literal (expr.Infix op.Equal (place line (column + 2)) (expr.Name (x_at line column)) e) ≡ None
compared line column e at is =
    ap literal_in (fold-Infix expr_step op.Equal (place line (column + 2)) (expr.Name (x_at line column)) e ∙ ap₂ (operating op.Equal (place line (column + 2))) (judged_x line column) is)

judged_positive : (line column : ℕ) → judged (is_positive line column) ≡ Ok (typing (Of BOOLEAN.base) None (place line (column + 2)))
judged_positive line column =
    fold-Infix expr_step op.Greater (place line (column + 2)) (expr.Name (x_at line column)) (expr.Number (pos 0) (place line (column + 4)))
    ∙ ap₂ (operating op.Greater (place line (column + 2))) (judged_x line column) (fold-Number expr_step (pos 0) (place line (column + 4)))

judged_kept : (line column : ℕ) → judged (is_kept line column) ≡ Ok (typing (Of BOOLEAN.base) None (place line (column + 2)))
judged_kept line column =
    fold-Infix expr_step op.Equal (place line (column + 2)) (expr.Name (x_at line column)) (entry_at line (column + 4))
    ∙ ap₂ (operating op.Equal (place line (column + 2))) (judged_x line column) (judged_entry line (column + 4))

positive_is_not : (line column : ℕ) → literal (is_positive line column) ≡ None
positive_is_not line column = ap literal_in (judged_positive line column)

-- `X > 0 and X = X~`
abbrev both : CoreExpr
both = expr.Infix op.And (place 6 20) (is_positive 6 14) (is_kept 6 24)

both_is_not : literal both ≡ None
both_is_not = ap literal_in (fold-Infix expr_step op.And (place 6 20) (is_positive 6 14) (is_kept 6 24) ∙ ap₂ (operating op.And (place 6 20)) (judged_positive 6 14) (judged_kept 6 24))

-- where X is both imported and exported
module _ (sub : Sub) (is : entry_term (program_of sub) sub (record { 0 = 0 }) ≡ entry_x) where
  abbrev p : Program
  p = program_of sub

  term_of_entry : (line column : ℕ) → term_of p (entry_term p sub) (entry_at line column) ≡ entry_x
  term_of_entry line column = term_with-Entry (now_term p) (entry_term p sub) (x_at line column) true ∙ is

  term_of_after : (line column : ℕ) → term_of p (entry_term p sub) (after_entry line column) ≡ next_x
  term_of_after line column =
      term_with-Infix (now_term p) (entry_term p sub) op.Add (place line (column + 3)) (entry_at line column) (expr.Number (pos 1) (place line (column + 5)))
      ∙ ap₂ (λ l t. literal_or l (term.Infix sign.Add t (term_of p (entry_term p sub) (expr.Number (pos 1) (place line (column + 5)))))) (ap literal_in (judged_after line column)) (term_of_entry line column)
      ∙ ap (term.Infix sign.Add entry_x) (term_with-Number (now_term p) (entry_term p sub) (pos 1) (place line (column + 5)))

  pub term_of_kept : (line column : ℕ) → term_of p (entry_term p sub) (is_kept line column) ≡ term.Infix sign.Equal now_x entry_x
  term_of_kept line column =
      term_of_operation p (entry_term p sub) op.Equal (place line (column + 2)) line column (entry_at line (column + 4)) (compared line column (entry_at line (column + 4)) _ (judged_entry line (column + 4)))
      ∙ ap (term.Infix sign.Equal now_x) (term_of_entry line (column + 4))

  term_of_next : (line column : ℕ) → term_of p (entry_term p sub) (is_next line column) ≡ term.Infix sign.Equal now_x next_x
  term_of_next line column =
      term_of_operation p (entry_term p sub) op.Equal (place line (column + 2)) line column (after_entry line (column + 4)) (compared line column (after_entry line (column + 4)) _ (judged_after line (column + 4)))
      ∙ ap (term.Infix sign.Equal now_x) (term_of_after line (column + 4))

  pub term_of_positive : (line column : ℕ) → term_of p (entry_term p sub) (is_positive line column) ≡ term.Infix sign.Greater now_x (term.Number (pos 0))
  term_of_positive line column =
      term_of_operation p (entry_term p sub) op.Greater (place line (column + 2)) line column (expr.Number (pos 0) (place line (column + 4))) (positive_is_not line column)
      ∙ ap (term.Infix sign.Greater now_x) (term_with-Number (now_term p) (entry_term p sub) (pos 0) (place line (column + 4)))

  term_of_both : term_of p (entry_term p sub) both ≡ term.Infix sign.And (term.Infix sign.Greater now_x (term.Number (pos 0))) (term.Infix sign.Equal now_x entry_x)
  term_of_both =
      term_with-Infix (now_term p) (entry_term p sub) op.And (place 6 20) (is_positive 6 14) (is_kept 6 24)
      ∙ ap (λ l. literal_or l (term.Infix sign.And (term_of p (entry_term p sub) (is_positive 6 14)) (term_of p (entry_term p sub) (is_kept 6 24)))) both_is_not
      ∙ ap₂ (term.Infix sign.And) (term_of_positive 6 14) (term_of_kept 6 24)

-- ---- the trees of steps

-- the procedures, with their programs
abbrev promised : Sub
promised = promising (is_next 3 10)

-- what comes at their ends
abbrev at_end : Term → Tree
at_end t = check kind.Post (place 3 5) (t ∷ []) Cut

-- a comparison is its own only part
pub asserted_is : (k : CondKind) (at : Place) (t : Term) (o : TermOp) (a b : Term) (rest : Tree) → t ≡ term.Infix o a b → parts_of o a b (conjuncts a) (conjuncts b) ≡ term.Infix o a b ∷ [] → asserted k at t rest ≡ check k at (term.Infix o a b ∷ []) rest
asserted_is k at t o a b rest is parts = ap (λ t. asserted k at t rest) is ∙ ap (λ ts. check k at ts rest) (conjuncts-Infix o a b ∙ parts)

-- `X = X~ + 1`
abbrev next_now_is : Term
next_now_is = term.Infix sign.Equal now_x next_x

promised_tree : start_tree (program_of promised) promised ≡ path_from_entry (summed (place 6 11) (at_end next_now_is))
promised_tree =
    let last : ℕ → Tree = ending (program_of promised) promised in
    ap path_from_entry
    (ap (λ c. walk (program_of promised) promised c last last 0) inc_command
    ∙ walk_step (promised ∷ []) promised 6 4 9 last last 0
    ∙ ap (summed (place 6 11)) (asserted_is kind.Post (place 3 5) _ sign.Equal now_x next_x Cut (term_of_next promised refl 3 10) refl))

checking_tree : start_tree (program_of only_checking) only_checking ≡ path_from_entry (check kind.Check (place 6 8) (now_is_positive ∷ []) (at_end now_is_kept))
checking_tree =
    let last : ℕ → Tree = ending (program_of only_checking) only_checking in
    ap path_from_entry
    (ap (λ c. walk (program_of only_checking) only_checking c last last 0) (assertion_is assertion.Check (place 6 8) (is_positive 6 14))
    ∙ asserted_is kind.Check (place 6 8) _ sign.Greater now_x (term.Number (pos 0)) (last 0) (term_of_positive only_checking refl 6 14) refl
    ∙ ap (check kind.Check (place 6 8) (now_is_positive ∷ [])) (asserted_is kind.Post (place 3 5) _ sign.Equal now_x entry_x Cut (term_of_kept only_checking refl 3 10) refl))

both_parts : conjuncts (term.Infix sign.And now_is_positive now_is_kept) ≡ now_is_positive ∷ now_is_kept ∷ []
both_parts =
    conjuncts-Infix sign.And now_is_positive now_is_kept
    ∙ ap₂ (λ (ts us : List Term). ts ++ us) (conjuncts-Infix sign.Greater now_x (term.Number (pos 0))) (conjuncts-Infix sign.Equal now_x entry_x)

both_tree : start_tree (program_of checking_both) checking_both ≡ path_from_entry (check kind.Check (place 6 8) (now_is_positive ∷ now_is_kept ∷ []) (at_end now_is_kept))
both_tree =
    let last : ℕ → Tree = ending (program_of checking_both) checking_both in
    ap path_from_entry
    (ap (λ c. walk (program_of checking_both) checking_both c last last 0) (assertion_is assertion.Check (place 6 8) both)
    ∙ ap (λ t. asserted kind.Check (place 6 8) t (last 0)) (term_of_both checking_both refl)
    ∙ ap₂ (check kind.Check (place 6 8)) both_parts (asserted_is kind.Post (place 3 5) _ sign.Equal now_x entry_x Cut (term_of_kept checking_both refl 3 10) refl))

-- ---- a term in the place of X

-- the name of its value on entry
abbrev entry_name : Name
entry_name = record { symbol = symbol.Entry 0; sort = Integer }

other_x : same_name now_name entry_name ≡ false
unfolding same_name same_by
other_x = refl

module _ (t : Term) where
  abbrev in_place : Term → Term
  in_place = substituted now_name t

  x_replaced : in_place now_x ≡ t
  x_replaced = terms.fold-Variable (substituted_step now_name t) now_name ∙ ap (λ b. if b then t else now_x) same_x

  entry_stays : in_place entry_x ≡ entry_x
  entry_stays = terms.fold-Variable (substituted_step now_name t) entry_name ∙ ap (λ b. if b then t else entry_x) other_x

  next_stays : in_place next_x ≡ next_x
  next_stays = terms.fold-Infix (substituted_step now_name t) sign.Add entry_x (term.Number (pos 1)) ∙ ap₂ (term.Infix sign.Add) entry_stays (terms.fold-Number (substituted_step now_name t) (pos 1))

  of_both : (o : TermOp) (a b c d : Term) → in_place a ≡ c → in_place b ≡ d → in_place (term.Infix o a b) ≡ term.Infix o c d
  of_both o a b c d left right = terms.fold-Infix (substituted_step now_name t) o a b ∙ ap₂ (term.Infix o) left right

next_goal : on_entry (substituted now_name next_now next_now_is) ≡ next_is_next
next_goal =
    ap on_entry (of_both next_now sign.Equal now_x next_x next_now next_x (x_replaced next_now) (next_stays next_now))
    ∙ of_both entry_x sign.Equal next_now next_x next_x next_x next_on_entry (next_stays entry_x)

pub kept_goal : on_entry now_is_kept ≡ entry_is_kept
kept_goal = of_both entry_x sign.Equal now_x entry_x entry_x entry_x x_on_entry (entry_stays entry_x)

pub positive_goal : on_entry now_is_positive ≡ entry_is_positive
positive_goal = before_number sign.Greater now_x entry_x (pos 0) x_on_entry

-- ---- hypotheses

-- a known fact is not added
passed : (facts : List Term) (t : Term) (rest : List Term) → is_among facts t ≡ true → fold with_new facts (t ∷ rest) ≡ fold with_new facts rest
passed facts t rest known = ap (λ b. fold with_new (if b then facts else facts ++ t ∷ []) rest) known

-- what is shown of the sum is shown twice, and known once
sum_once : without_doubles (map on_entry (in_integer now_x ++ in_integer next_now ++ in_integer next_now)) ≡ known_entry ++ sum_goals
sum_once =
    let all : List Term = known_entry ++ sum_goals in
    ap without_doubles (ap₂ (λ (ts us : List Term). ts ++ us ++ us) entry_on_entry goals_on_entry)
    ∙ entry_taken (sum_goals ++ sum_goals)
    ∙ taken known_entry first_next (last_next ∷ sum_goals) first_is_new_on_entry
    ∙ taken (known_entry ++ first_next ∷ []) last_next sum_goals last_is_new_on_entry
    ∙ passed all first_next (last_next ∷ []) (is_later first_next first_x (last_x ∷ sum_goals) (is_later first_next last_x sum_goals (is_first first_next (last_next ∷ []))))
    ∙ passed all last_next [] (is_later last_next first_x (last_x ∷ sum_goals) (is_later last_next last_x sum_goals (is_later last_next first_next (last_next ∷ []) (is_first last_next []))))

positive_is_new : is_among known_entry entry_is_positive ≡ false
positive_is_new = is_new entry_is_positive first_x (last_x ∷ []) (other_op _ _ _ _ _ _ (λ e. cc)) (is_new entry_is_positive last_x [] (other_op _ _ _ _ _ _ (λ e. cc)) refl)

positive_once : without_doubles (map on_entry (in_integer now_x ++ now_is_positive ∷ [])) ≡ known_entry ++ entry_is_positive ∷ []
positive_once =
    ap without_doubles (ap₂ (λ (ts : List Term) (t : Term). ts ++ t ∷ []) entry_on_entry positive_goal)
    ∙ entry_taken (entry_is_positive ∷ [])
    ∙ taken known_entry entry_is_positive [] positive_is_new

both_once : without_doubles (map on_entry (in_integer now_x ++ now_is_positive ∷ now_is_kept ∷ [])) ≡ known_entry ++ entry_is_positive ∷ entry_is_kept ∷ []
both_once =
    let more : List Term = entry_is_kept ∷ [] in
    ap without_doubles (ap₂ (λ (ts us : List Term). ts ++ us) entry_on_entry (ap₂ (λ (t u : Term). t ∷ u ∷ []) positive_goal kept_goal))
    ∙ entry_taken (entry_is_positive ∷ more)
    ∙ taken known_entry entry_is_positive more positive_is_new
    ∙ taken (known_entry ++ entry_is_positive ∷ []) entry_is_kept []
    (is_new entry_is_kept first_x (last_x ∷ entry_is_positive ∷ []) (other_op _ _ _ _ _ _ (λ e. cc))
    (is_new entry_is_kept last_x (entry_is_positive ∷ []) (other_op _ _ _ _ _ _ (λ e. cc)) (is_new entry_is_kept entry_is_positive [] (other_op _ _ _ _ _ _ (λ e. cc)) refl)))

-- ---- claims

-- the claims of the sum, and the last one, with these hypotheses and goals
abbrev three_claims : (known more all goals : List Term) → Term → List Claim
three_claims known more all goals t = claims_with (place 6 11) known more goals ++ record { kind = kind.Post; place = place 3 5; hyps = all; goals = t ∷ [] } ∷ []

promised_claims : map tidy (claims_of (path_from_entry (summed (place 6 11) (at_end next_now_is)))) ≡ three_claims known_entry (known_entry ++ sum_goals) (known_entry ++ sum_goals) sum_goals next_is_next
promised_claims =
    let goals : List Term = map on_entry (in_integer next_now) in
    let last : Term = on_entry (substituted now_name next_now next_now_is) in
    ap₂ (λ known more. three_claims known more (without_doubles (map on_entry (in_integer now_x ++ in_integer next_now ++ in_integer next_now))) goals last) entry_once entry_all_once
    ∙ ap₂ (λ all goals. three_claims known_entry (known_entry ++ sum_goals) all goals last) sum_once goals_on_entry
    ∙ ap (three_claims known_entry (known_entry ++ sum_goals) (known_entry ++ sum_goals) sum_goals) next_goal

-- the claims of the two annotations
abbrev two_claims : (known more goals : List Term) → Term → List Claim
two_claims known more goals u = record { kind = kind.Check; place = place 6 8; hyps = known; goals = goals } ∷ record { kind = kind.Post; place = place 3 5; hyps = more; goals = u ∷ [] } ∷ []

checking_claims : map tidy (claims_of (path_from_entry (check kind.Check (place 6 8) (now_is_positive ∷ []) (at_end now_is_kept)))) ≡ two_claims known_entry (known_entry ++ entry_is_positive ∷ []) (entry_is_positive ∷ []) entry_is_kept
checking_claims =
    ap₂ (λ known more. two_claims known more (on_entry now_is_positive ∷ []) (on_entry now_is_kept)) entry_once positive_once
    ∙ ap₂ (λ t u. two_claims known_entry (known_entry ++ entry_is_positive ∷ []) (t ∷ []) u) positive_goal kept_goal

both_claims : map tidy (claims_of (path_from_entry (check kind.Check (place 6 8) (now_is_positive ∷ now_is_kept ∷ []) (at_end now_is_kept))))
    ≡ two_claims known_entry (known_entry ++ entry_is_positive ∷ entry_is_kept ∷ []) (entry_is_positive ∷ entry_is_kept ∷ []) entry_is_kept
both_claims =
    ap₂ (λ known more. two_claims known more (on_entry now_is_positive ∷ on_entry now_is_kept ∷ []) (on_entry now_is_kept)) entry_once both_once
    ∙ ap₂ (λ t u. two_claims known_entry (known_entry ++ entry_is_positive ∷ entry_is_kept ∷ []) (t ∷ u ∷ []) u) positive_goal kept_goal

pub promised_are : conditions_of (program_of promised) promised ≡ promised_conditions
unfolding digits
promised_are = conditions_from (program_of promised) promised _ _ (trees_are (program_of promised) promised _ _ [] inc_command promised_tree refl) promised_claims

pub checking_are : conditions_of (program_of only_checking) only_checking ≡ check_condition ∷ kept_condition ∷ []
unfolding digits
checking_are = conditions_from (program_of only_checking) only_checking _ _ (trees_are (program_of only_checking) only_checking _ _ [] (assertion_is assertion.Check (place 6 8) (is_positive 6 14)) checking_tree refl) checking_claims

pub both_are : conditions_of (program_of checking_both) checking_both ≡ both_condition ∷ kept_after_both ∷ []
unfolding digits
both_are = conditions_from (program_of checking_both) checking_both _ _ (trees_are (program_of checking_both) checking_both _ _ [] (assertion_is assertion.Check (place 6 8) both) both_tree refl) both_claims
