-- The statement `X := X + 1` where X lies below a number on entry: its steps and what they ask for.
use Rattle.std.proofs.Common.{◌≡◌, ℕ, ◌+◌, ℤ, pos, true, false, if◌then◌else◌, List, [], ◌∷◌, ◌++◌, None, map, fold, refl, sym, ap, ap₂, ◌∙◌}
use Rattle.spx_text.specs.declared.place.Place.{Place}
use Rattle.spx_tree.specs.declared.expression.InfixOp.{InfixOp}
use Rattle.spx_tree.specs.declared.expression.InfixOp.TheVariants as op
use Rattle.spx_core.specs.declared.entity.TheConstants.{INTEGER, INTEGER_FIRST, INTEGER_LAST}
use Rattle.spx_core.specs.declared.entity.VarId.{VarId}
use Rattle.spx_core.specs.declared.expression.CoreExpr.{CoreExpr}
use Rattle.spx_core.specs.declared.expression.CoreExpr.TheVariants as expr
use Rattle.spx_core.specs.declared.program.Program.{Program}
use Rattle.spx_core.specs.declared.subprogram.Sub.{Sub}
use Rattle.spx_core.specs.Places.{place_of}
use Rattle.spx_term.specs.declared.condition.CondKind.TheVariants.{Overflow, Range}
use Rattle.spx_term.specs.declared.term.Name.{Name}
use Rattle.spx_term.specs.declared.term.Sort.TheVariants.{Integer}
use Rattle.spx_term.specs.declared.term.Symbol.TheVariants as symbol
use Rattle.spx_term.specs.declared.term.TermOp.{TermOp}
use Rattle.spx_term.specs.declared.term.TermOp.TheVariants as sign
use Rattle.spx_term.specs.declared.term.Term.{Term}
use Rattle.spx_term.specs.declared.term.Term.TheVariants as term
use Rattle.spx_term.specs.Equality.{same_by}
use Rattle.spx_term.specs.Plain.{is_among}
use Rattle.spx_term.specs.Steps.{Tree, Cut, Assign, Claim, assume_all, check, substituted_step, substituted, claims_of, with_new, without_doubles, tidy}
use Rattle.spx_term.specs.Equality.{same_name}
use Rattle.spx_term.proofs.Terms as terms
use Rattle.spx_meaning.specs.Evaluation.{term_op}
use Rattle.spx_meaning.specs.Literals.{base_judged, literal, literal_in}
use Rattle.spx_formula.specs.Terms.{now_term, term_of, term_with-Infix, term_with-Name, term_with-Number, literal_or}
use Rattle.spx_paths.specs.Checks.{in_type, checks, checks-Infix, checks-Name, checks-Number, operation_check, unless_static}
use Rattle.spx_paths.specs.Walks.{walk}
use Rattle.spx_examples.specs.Increment.{place, x, x_at, successor, increment, entry_x, next_x, at_least_first, at_most_last, entry_below, known_entry, known_below, sum_goals}
use Rattle.spx_examples.proofs.Successor.{judged_x, judged_successor, step_command, place_of_successor, successor_is_not}
use Rattle.spx_examples.proofs.TermEquality.{other_op, other_left, no_infix, is_new}

-- ---- terms of the value now

-- the program of these subprograms, whose one variable is X
abbrev pub program_with : List Sub → Program
program_with subs = record increment { subs = subs }

-- the name of its value now
abbrev pub now_name : Name
now_name = record { symbol = symbol.Now 0; sort = Integer }

-- `X`
abbrev pub now_x : Term
now_x = term.Variable now_name

-- it lies in `Integer`
abbrev pub in_integer : Term → List Term
in_integer t = in_type INTEGER t

-- `X + 1`
abbrev pub next_now : Term
next_now = term.Infix sign.Add now_x (term.Number (pos 1))

-- `X < n`
abbrev pub below_now : ℤ → Term
below_now n = term.Infix sign.Less now_x (term.Number n)

-- check X + 1 against the base range and the type of X, and give it to X
abbrev pub summed : Place → Tree → Tree
summed at rest = check Overflow at (in_integer next_now) (check Range at (in_integer next_now) (Assign now_name next_now rest))

module _ (p : Program) (entered : VarId → Term) where
  -- an operation that is not static, on X
  pub term_of_operation : (o : InfixOp) (at : Place) (line column : ℕ) (b : CoreExpr) → literal (expr.Infix o at (expr.Name (x_at line column)) b) ≡ None
      → term_of p entered (expr.Infix o at (expr.Name (x_at line column)) b) ≡ term.Infix (term_op o) (now_term p x) (term_of p entered b)
  term_of_operation o at line column b none =
      term_with-Infix (now_term p) entered o at (expr.Name (x_at line column)) b
      ∙ ap₂ (λ l t. literal_or l (term.Infix (term_op o) t (term_of p entered b))) none
      (term_with-Name (now_term p) entered (x_at line column) ∙ ap (λ j. literal_or (literal_in j) (now_term p x)) (judged_x line column))

  term_of_successor : (line column : ℕ) → term_of p entered (successor line column) ≡ term.Infix sign.Add (now_term p x) (term.Number (pos 1))
  term_of_successor line column =
      term_of_operation op.Add (place line (column + 2)) line column (expr.Number (pos 1) (place line (column + 4))) (successor_is_not line column)
      ∙ ap (term.Infix sign.Add (now_term p x)) (term_with-Number (now_term p) entered (pos 1) (place line (column + 4)))

  checks_successor : (line column : ℕ) (rest : Tree) → checks p entered [] (successor line column) rest ≡ check Overflow (place line (column + 2)) (in_integer (term_of p entered (successor line column))) rest
  checks_successor line column rest =
      let one : CoreExpr = expr.Number (pos 1) (place line (column + 4)) in
      let after : Tree = check Overflow (place line (column + 2)) (in_integer (term_of p entered (successor line column))) rest in
      checks-Infix p entered [] op.Add (place line (column + 2)) (expr.Name (x_at line column)) one rest
      ∙ ap (λ j. unless_static (literal_in j) rest (checks p entered [] (expr.Name (x_at line column)) (checks p entered [] one
      (operation_check [] op.Add (base_judged j) (place line (column + 2)) (place_of one) (term_of p entered one) (term_of p entered (successor line column)) rest)))) (judged_successor line column)
      ∙ checks-Name p entered [] (x_at line column) (checks p entered [] one after)
      ∙ checks-Number p entered [] (pos 1) (place line (column + 4)) after

pub walk_step : (subs : List Sub) (sub : Sub) (line target value : ℕ) (rest leave : ℕ → Tree) (made : ℕ)
    → walk (program_with subs) sub (step_command line target value) rest leave made ≡ summed (place line (value + 2)) (rest made)
walk_step subs sub line target value rest leave made =
    let p = program_with subs in
    let entered = now_term p in
    let t = term_of p entered (successor line value) in
    checks_successor p entered line value (check Range (place_of (successor line value)) (in_integer t) (Assign now_name t (rest made)))
    ∙ ap₂ (λ u at. check Overflow (place line (value + 2)) (in_integer u) (check Range at (in_integer u) (Assign now_name u (rest made)))) (term_of_successor p entered line value) (place_of_successor line value)

-- ---- the entry value in the place of X

-- a term over the entry value
abbrev pub on_entry : Term → Term
on_entry = substituted now_name entry_x

pub same_x : same_name now_name now_name ≡ true
unfolding same_name same_by
same_x = refl

pub x_on_entry : on_entry now_x ≡ entry_x
x_on_entry = terms.fold-Variable (substituted_step now_name entry_x) now_name ∙ ap (λ b. if b then entry_x else now_x) same_x

pub before_number : (o : TermOp) (a b : Term) (n : ℤ) → on_entry a ≡ b → on_entry (term.Infix o a (term.Number n)) ≡ term.Infix o b (term.Number n)
before_number o a b n is = terms.fold-Infix (substituted_step now_name entry_x) o a (term.Number n) ∙ ap₂ (term.Infix o) is (terms.fold-Number (substituted_step now_name entry_x) n)

pub next_on_entry : on_entry next_now ≡ next_x
next_on_entry = before_number sign.Add now_x entry_x (pos 1) x_on_entry

pub both_on_entry : (a b : Term) → on_entry a ≡ b → map on_entry (in_integer a) ≡ in_integer b
both_on_entry a b is = ap₂ (λ (s t : Term). s ∷ t ∷ []) (before_number sign.GreaterOrEqual a b INTEGER_FIRST is) (before_number sign.LessOrEqual a b INTEGER_LAST is)

-- ---- hypotheses, where X~ lies below n

next_is_not_entry : next_x ≡ entry_x → ⊥
next_is_not_entry e = no_infix _ sign.Add entry_x (term.Number (pos 1)) (sym e)

-- a new fact is added
pub taken : (facts : List Term) (t : Term) (rest : List Term) → is_among facts t ≡ false → fold with_new facts (t ∷ rest) ≡ fold with_new (facts ++ t ∷ []) rest
taken facts t rest none = ap (λ b. fold with_new (if b then facts else facts ++ t ∷ []) rest) none

abbrev pub first_x : Term
first_x = at_least_first entry_x

abbrev pub last_x : Term
last_x = at_most_last entry_x

abbrev pub first_next : Term
first_next = at_least_first next_x

abbrev pub last_next : Term
last_next = at_most_last next_x

-- no two hypotheses are equal
pub entry_taken : (rest : List Term) → fold with_new [] (known_entry ++ rest) ≡ fold with_new known_entry rest
entry_taken rest = taken [] first_x (last_x ∷ rest) refl ∙ taken (first_x ∷ []) last_x rest (is_new last_x first_x [] (other_op _ _ _ _ _ _ (λ e. cc)) refl)

known_taken : (n : ℤ) (rest : List Term) → fold with_new [] (known_below n ++ rest) ≡ fold with_new (known_below n) rest
known_taken n rest =
    let below = entry_below n in
    entry_taken (below ∷ rest) ∙ taken known_entry below rest (is_new below first_x (last_x ∷ []) (other_op _ _ _ _ _ _ (λ e. cc)) (is_new below last_x [] (other_op _ _ _ _ _ _ (λ e. cc)) refl))

first_is_new : (n : ℤ) → is_among (known_below n) first_next ≡ false
first_is_new n =
    let below = entry_below n in
    is_new first_next first_x (last_x ∷ below ∷ []) (other_left _ _ _ _ _ _ next_is_not_entry)
    (is_new first_next last_x (below ∷ []) (other_op _ _ _ _ _ _ (λ e. cc)) (is_new first_next below [] (other_op _ _ _ _ _ _ (λ e. cc)) refl))

last_is_new : (n : ℤ) → is_among (known_below n ++ first_next ∷ []) last_next ≡ false
last_is_new n =
    let below = entry_below n in
    is_new last_next first_x (last_x ∷ below ∷ first_next ∷ []) (other_op _ _ _ _ _ _ (λ e. cc))
    (is_new last_next last_x (below ∷ first_next ∷ []) (other_left _ _ _ _ _ _ next_is_not_entry)
    (is_new last_next below (first_next ∷ []) (other_op _ _ _ _ _ _ (λ e. cc)) (is_new last_next first_next [] (other_op _ _ _ _ _ _ (λ e. cc)) refl)))

known_on_entry : (n : ℤ) → map on_entry (in_integer now_x ++ below_now n ∷ []) ≡ known_below n
known_on_entry n = ap₂ (λ (ts : List Term) (t : Term). ts ++ t ∷ []) (both_on_entry now_x entry_x x_on_entry) (before_number sign.Less now_x entry_x n x_on_entry)

pub goals_on_entry : map on_entry (in_integer next_now) ≡ sum_goals
goals_on_entry = both_on_entry next_now next_x next_on_entry

known_once : (n : ℤ) → without_doubles (map on_entry (in_integer now_x ++ below_now n ∷ [])) ≡ known_below n
known_once n = ap without_doubles (known_on_entry n) ∙ known_taken n []

all_once : (n : ℤ) → without_doubles (map on_entry (in_integer now_x ++ below_now n ∷ in_integer next_now)) ≡ known_below n ++ sum_goals
all_once n =
    ap without_doubles (ap₂ (λ (ts us : List Term). ts ++ us) (known_on_entry n) goals_on_entry)
    ∙ known_taken n sum_goals
    ∙ taken (known_below n) first_next (last_next ∷ []) (first_is_new n)
    ∙ taken (known_below n ++ first_next ∷ []) last_next [] (last_is_new n)

-- ---- claims

-- from the entry on, where X lies below n
abbrev pub path_below : ℤ → Tree → Tree
path_below n rest = Assign now_name entry_x (assume_all (in_integer now_x ++ below_now n ∷ []) rest)

-- the claims with these hypotheses and goals
abbrev pub claims_with : Place → List Term → List Term → List Term → List Claim
claims_with at known more goals = record { kind = Overflow; place = at; hyps = known; goals = goals } ∷ record { kind = Range; place = at; hyps = more; goals = goals } ∷ []

pub claims_are : (n : ℤ) (at : Place) → map tidy (claims_of (path_below n (summed at Cut))) ≡ claims_with at (known_below n) (known_below n ++ sum_goals) sum_goals
claims_are n at =
    ap₂ (λ known more. claims_with at known more (map on_entry (in_integer next_now))) (known_once n) (all_once n)
    ∙ ap (claims_with at (known_below n) (known_below n ++ sum_goals)) goals_on_entry

-- ---- where no more is known of X~

pub first_is_new_on_entry : is_among known_entry first_next ≡ false
first_is_new_on_entry = is_new first_next first_x (last_x ∷ []) (other_left _ _ _ _ _ _ next_is_not_entry) (is_new first_next last_x [] (other_op _ _ _ _ _ _ (λ e. cc)) refl)

pub last_is_new_on_entry : is_among (known_entry ++ first_next ∷ []) last_next ≡ false
last_is_new_on_entry =
    is_new last_next first_x (last_x ∷ first_next ∷ []) (other_op _ _ _ _ _ _ (λ e. cc))
    (is_new last_next last_x (first_next ∷ []) (other_left _ _ _ _ _ _ next_is_not_entry) (is_new last_next first_next [] (other_op _ _ _ _ _ _ (λ e. cc)) refl))

pub entry_on_entry : map on_entry (in_integer now_x) ≡ known_entry
entry_on_entry = both_on_entry now_x entry_x x_on_entry

pub entry_once : without_doubles (map on_entry (in_integer now_x)) ≡ known_entry
entry_once = ap without_doubles entry_on_entry ∙ entry_taken []

pub entry_all_once : without_doubles (map on_entry (in_integer now_x ++ in_integer next_now)) ≡ known_entry ++ sum_goals
entry_all_once =
    ap without_doubles (ap₂ (λ (ts us : List Term). ts ++ us) entry_on_entry goals_on_entry)
    ∙ entry_taken sum_goals
    ∙ taken known_entry first_next (last_next ∷ []) first_is_new_on_entry
    ∙ taken (known_entry ++ first_next ∷ []) last_next [] last_is_new_on_entry

-- from the entry on
abbrev pub path_from_entry : Tree → Tree
path_from_entry rest = Assign now_name entry_x (assume_all (in_integer now_x) rest)

pub claims_from_entry : (at : Place) → map tidy (claims_of (path_from_entry (summed at Cut))) ≡ claims_with at known_entry (known_entry ++ sum_goals) sum_goals
claims_from_entry at =
    ap₂ (λ known more. claims_with at known more (map on_entry (in_integer next_now))) entry_once entry_all_once
    ∙ ap (claims_with at known_entry (known_entry ++ sum_goals)) goals_on_entry
