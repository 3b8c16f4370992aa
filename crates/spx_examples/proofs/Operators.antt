-- What the operators give, mean, ask for and stand for as terms.
use Rattle.std.proofs.Common.{◌≡◌, ℕ, ℤ, pos, Bool, true, false, if◌then◌else◌, List, [], ◌∷◌, Option, Some, None, Ok, refl, ap, ap₂, ◌∙◌}
use Rattle.spx_text.specs.declared.place.Place.{Place}
use Rattle.spx_tree.specs.declared.expression.InfixOp.{InfixOp}
use Rattle.spx_tree.specs.declared.expression.InfixOp.TheVariants as op
use Rattle.spx_tree.specs.declared.expression.PrefixOp.{PrefixOp}
use Rattle.spx_tree.specs.declared.expression.MemberOp.{MemberOp}
use Rattle.spx_core.specs.declared.entity.TheConstants.{BOOLEAN, INTEGER}
use Rattle.spx_core.specs.declared.entity.Subtype.{Subtype}
use Rattle.spx_core.specs.declared.entity.VarId.{VarId}
use Rattle.spx_core.specs.declared.expression.CoreExpr.{CoreExpr}
use Rattle.spx_core.specs.declared.expression.CoreExpr.TheVariants.{Number, Name, Infix}
use Rattle.spx_core.specs.declared.name.CoreName.{CoreName}
use Rattle.spx_core.specs.declared.program.Program.{Program}
use Rattle.spx_core.specs.declared.rule.ExprType.TheVariants.{Universal, Of}
use Rattle.spx_core.specs.declared.rule.Typing.{Typing}
use Rattle.spx_core.specs.Judged.{Judged, ◌>>=◌, expr_step, judged, named_value, typing}
use Rattle.spx_core.specs.Judged as rules
use Rattle.spx_core.specs.Places.{place_in, place_of}
use Rattle.spx_core.specs.Types.{is_parted}
use Rattle.spx_core.proofs.Callers.Expressions.{fold-Name, fold-Number, fold-Prefix, fold-Infix, fold-InType, fold-InRange}
use Rattle.spx_term.specs.declared.term.Term.{Term}
use Rattle.spx_term.specs.declared.term.Term.TheVariants as term
use Rattle.spx_term.specs.declared.value.Value.{Value}
use Rattle.spx_term.specs.declared.value.Value.TheVariants as value
use Rattle.spx_term.specs.Steps.{Tree}
use Rattle.spx_meaning.specs.Annotations.{meant, meant_step}
use Rattle.spx_meaning.specs.Evaluation.{Answer, Gives, applied, checked, first_in, last_in, member, read, static_or, term_op, with_value, eval, eval-Number, eval-InType, eval-InRange}
use Rattle.spx_meaning.specs.Frames.{Frame}
use Rattle.spx_meaning.specs.Literals.{base_judged, literal_in, static_in}
use Rattle.spx_meaning.specs.Stores.{Store}
use Rattle.spx_paths.specs.Checks.{checks, checks-Infix, checks-Name, checks-Number, operation_check, right_lefts, unless_static}
use Rattle.spx_formula.specs.Terms.{first_term, last_term, literal_or, member_term, now_term, signed_term, term_of, term_with-Infix, term_with-InType, term_with-Name, term_with-Number, term_with-Prefix}
use Rattle.spx_examples.specs.Assertions.{of_literals}
use Rattle.spx_examples.specs.Increment.{place}
use Rattle.spx_examples.specs.Operators.{a, b, a_at, b_at, true_at, two, one, natural_named, in_natural, in_numbers, static, b_is_not_zero, a_over_b, above_one, guarded, number, values, Means}
use Rattle.spx_examples.proofs.Evaluations.{eval_name, eval_operated, eval_signed, operated_as, signed_as}
use Rattle.spx_examples.proofs.Statements.{operating}

-- ---- what the expressions are judged to be

-- a variable of this type
abbrev pub of_type : Subtype → Place → Judged Typing
of_type subtype at = Ok (typing (Of subtype.base) None at)

abbrev pub two_judged : InfixOp → Subtype → Judged Typing
two_judged o subtype = operating o (place 1 3) (of_type subtype (place 1 1)) (of_type subtype (place 1 12))

pub judged_two : (o : InfixOp) (subtype : Subtype) → judged (two o subtype) ≡ two_judged o subtype
judged_two o subtype =
    fold-Infix expr_step o (place 1 3) (Name (a_at subtype 1)) (Name (b_at subtype 12))
    ∙ ap₂ (operating o (place 1 3)) (fold-Name expr_step (a_at subtype 1)) (fold-Name expr_step (b_at subtype 12))

abbrev pub one_judged : PrefixOp → Subtype → Judged Typing
one_judged o subtype = of_type subtype (place 1 12) >>= λ t. rules.sign o (place 1 3) t

pub judged_one : (o : PrefixOp) (subtype : Subtype) → judged (one o subtype) ≡ one_judged o subtype
judged_one o subtype = fold-Prefix expr_step o (place 1 3) (Name (b_at subtype 12)) ∙ ap (λ j. j >>= λ t. rules.sign o (place 1 3) t) (fold-Name expr_step (b_at subtype 12))

judged_in_natural : (o : MemberOp) → judged (in_natural o) ≡ of_type BOOLEAN (place 1 3)
judged_in_natural o =
    fold-InType expr_step o (place 1 3) (Name (a_at INTEGER 1)) natural_named
    ∙ ap (λ j. j >>= λ t. rules.ordered_type natural_named >>= λ subtype. rules.member_of_type o (place 1 3) t subtype) (fold-Name expr_step (a_at INTEGER 1))

pub judged_static : (o : InfixOp) (m n : ℤ) → judged (static o m n) ≡ operating o (place 1 3) (Ok (typing Universal (Some m) (place 1 1))) (Ok (typing Universal (Some n) (place 1 12)))
judged_static o m n =
    fold-Infix expr_step o (place 1 3) (Number m (place 1 1)) (Number n (place 1 12))
    ∙ ap₂ (operating o (place 1 3)) (fold-Number expr_step m (place 1 1)) (fold-Number expr_step n (place 1 12))

-- an operation on two names
pub judged_of_literals : (o : InfixOp) (m n : CoreName) → judged (of_literals o m n) ≡ operating o (place 1 3) (named_value m) (named_value n)
judged_of_literals o m n = fold-Infix expr_step o (place 1 3) (Name m) (Name n) ∙ ap₂ (operating o (place 1 3)) (fold-Name expr_step m) (fold-Name expr_step n)

pub judged_true : judged (Name (true_at 1 1)) ≡ Ok (typing (Of BOOLEAN.base) (Some (pos 1)) (place 1 1))
judged_true = fold-Name expr_step (true_at 1 1)

-- ---- what they give

either_way : (b : Bool) → ◌≡◌ {A = Option Value} (if b then None else None) None
either_way true = refl
either_way false = refl

-- a variable is not static, whatever its type
not_static : (subtype : Subtype) → static_in (Of subtype.base) None ≡ None
not_static subtype = either_way (is_parted (Of subtype.base))

module _ (f : Frame) (n : ℕ) (s : Store) where
  eval_a : (subtype : Subtype) (column : ℕ) → eval f n s (Name (a_at subtype column)) ≡ read s (place 1 column) (Some a)
  eval_a subtype column = eval_name f n s (a_at subtype column) ∙ ap (λ l. static_or l (read s (place 1 column) (Some a))) (not_static subtype)

  eval_b : (subtype : Subtype) (column : ℕ) → eval f n s (Name (b_at subtype column)) ≡ read s (place 1 column) (Some b)
  eval_b subtype column = eval_name f n s (b_at subtype column) ∙ ap (λ l. static_or l (read s (place 1 column) (Some b))) (not_static subtype)

  pub eval_true : eval f n s (Name (true_at 1 1)) ≡ Gives (value.Truth true)
  eval_true = eval_name f n s (true_at 1 1)

  pub eval_two : (o : InfixOp) (subtype : Subtype) → eval f n s (two o subtype) ≡ operated_as o (place 1 3) (place 1 12) (two_judged o subtype) (read s (place 1 1) (Some a)) (read s (place 1 12) (Some b))
  eval_two o subtype =
      let left = read s (place 1 1) (Some a) in
      let right = read s (place 1 12) (Some b) in
      eval_operated f n s o (place 1 3) (Name (a_at subtype 1)) (Name (b_at subtype 12)) (two_judged o subtype) left right (judged_two o subtype) (eval_a subtype 1) (eval_b subtype 12)
      ∙ ap (λ at. operated_as o (place 1 3) at (two_judged o subtype) left right) (fold-Name place_in (b_at subtype 12))

  pub eval_one : (o : PrefixOp) (subtype : Subtype) → eval f n s (one o subtype) ≡ signed_as o (place 1 3) (one_judged o subtype) (read s (place 1 12) (Some b))
  eval_one o subtype = eval_signed f n s o (place 1 3) (Name (b_at subtype 12)) (one_judged o subtype) (read s (place 1 12) (Some b)) (judged_one o subtype) (eval_b subtype 12)

  pub eval_in_natural : (o : MemberOp) → eval f n s (in_natural o) ≡ with_value (read s (place 1 1) (Some a)) (λ x. Gives (member o x (first_in natural_named) (last_in natural_named)))
  eval_in_natural o =
      eval-InType f n s o (place 1 3) (Name (a_at INTEGER 1)) natural_named
      ∙ ap₂ (λ j answer. static_or (literal_in j) (with_value answer (λ x. Gives (member o x (first_in natural_named) (last_in natural_named)))))
      (judged_in_natural o)
      (eval_name f n s (a_at INTEGER 1))

  pub eval_in_numbers : (o : MemberOp) (low high : ℤ)
      → literal_in (rules.member_of_range o (place 1 3) (typing (Of INTEGER.base) None (place 1 1)) (typing Universal (Some low) (place 1 12)) (typing Universal (Some high) (place 1 17))) ≡ None
      → eval f n s (in_numbers o low high) ≡ with_value (read s (place 1 1) (Some a)) (λ x. Gives (member o x (value.Number low) (value.Number high)))
  eval_in_numbers o low high none =
      let first : CoreExpr = Number low (place 1 12) in
      let last : CoreExpr = Number high (place 1 17) in
      let tested : CoreExpr = Name (a_at INTEGER 1) in
      eval-InRange f n s o (place 1 3) tested first last
      ∙ ap₂ (λ l answer. static_or l (with_value answer (λ x. with_value (eval f n s first) (λ y. with_value (eval f n s last) (λ z. Gives (member o x y z))))))
      (ap literal_in
      (fold-InRange expr_step o (place 1 3) tested first last
      ∙ ap₂ (λ t l. t >>= λ t. l >>= λ l. judged last >>= λ h. rules.member_of_range o (place 1 3) t l h) (fold-Name expr_step (a_at INTEGER 1)) (fold-Number expr_step low (place 1 12))
      ∙ ap (λ h. h >>= λ h. rules.member_of_range o (place 1 3) (typing (Of INTEGER.base) None (place 1 1)) (typing Universal (Some low) (place 1 12)) h) (fold-Number expr_step high (place 1 17)))
      ∙ none)
      (eval_name f n s (a_at INTEGER 1))
      ∙ ap₂ (λ y z. with_value (read s (place 1 1) (Some a)) (λ x. with_value y (λ y. with_value z (λ z. Gives (member o x y z))))) (eval-Number f n s low (place 1 12)) (eval-Number f n s high (place 1 17))

-- ---- `B /= 0 op A / B > 1`

judged_test : judged b_is_not_zero ≡ of_type BOOLEAN (place 1 3)
judged_test =
    fold-Infix expr_step op.NotEqual (place 1 3) (Name (b_at INTEGER 1)) (Number (pos 0) (place 1 6))
    ∙ ap₂ (operating op.NotEqual (place 1 3)) (fold-Name expr_step (b_at INTEGER 1)) (fold-Number expr_step (pos 0) (place 1 6))

judged_quotient : judged a_over_b ≡ of_type INTEGER (place 1 19)
judged_quotient =
    fold-Infix expr_step op.Divide (place 1 19) (Name (a_at INTEGER 17)) (Name (b_at INTEGER 21))
    ∙ ap₂ (operating op.Divide (place 1 19)) (fold-Name expr_step (a_at INTEGER 17)) (fold-Name expr_step (b_at INTEGER 21))

judged_above : judged above_one ≡ of_type BOOLEAN (place 1 23)
judged_above =
    fold-Infix expr_step op.Greater (place 1 23) a_over_b (Number (pos 1) (place 1 25))
    ∙ ap₂ (operating op.Greater (place 1 23)) judged_quotient (fold-Number expr_step (pos 1) (place 1 25))

abbrev guarded_judged : InfixOp → Judged Typing
guarded_judged o = operating o (place 1 8) (of_type BOOLEAN (place 1 3)) (of_type BOOLEAN (place 1 23))

judged_guarded : (o : InfixOp) → judged (guarded o) ≡ guarded_judged o
judged_guarded o = fold-Infix expr_step o (place 1 8) b_is_not_zero above_one ∙ ap₂ (operating o (place 1 8)) judged_test judged_above

-- what the quotient gives where A and B are read as these
abbrev quotient_of : (x y : Answer) → Answer
quotient_of x y = with_value x (λ u. with_value y (λ v. checked op.Divide INTEGER.base (place 1 19) (place 1 21) u v))

-- what the operands give
abbrev test_of : Answer → Answer
test_of y = with_value y (λ v. Gives (applied op.NotEqual v (value.Number (pos 0))))

abbrev above_of : Answer → Answer
above_of q = with_value q (λ v. Gives (applied op.Greater v (value.Number (pos 1))))

module _ (f : Frame) (n : ℕ) (s : Store) where
  eval_test : eval f n s b_is_not_zero ≡ test_of (read s (place 1 1) (Some b))
  eval_test = eval_operated f n s op.NotEqual (place 1 3) (Name (b_at INTEGER 1)) (Number (pos 0) (place 1 6)) _ _ _ judged_test (eval_name f n s (b_at INTEGER 1)) (eval-Number f n s (pos 0) (place 1 6))

  eval_quotient : eval f n s a_over_b ≡ quotient_of (read s (place 1 17) (Some a)) (read s (place 1 21) (Some b))
  eval_quotient = eval_operated f n s op.Divide (place 1 19) (Name (a_at INTEGER 17)) (Name (b_at INTEGER 21)) _ _ _ judged_quotient (eval_name f n s (a_at INTEGER 17)) (eval_name f n s (b_at INTEGER 21))

  eval_above : eval f n s above_one ≡ above_of (quotient_of (read s (place 1 17) (Some a)) (read s (place 1 21) (Some b)))
  eval_above = eval_operated f n s op.Greater (place 1 23) a_over_b (Number (pos 1) (place 1 25)) _ _ _ judged_above eval_quotient (eval-Number f n s (pos 1) (place 1 25))

  pub eval_guarded : (o : InfixOp) → eval f n s (guarded o)
      ≡ operated_as o (place 1 8) (place_of above_one) (guarded_judged o) (test_of (read s (place 1 1) (Some b))) (above_of (quotient_of (read s (place 1 17) (Some a)) (read s (place 1 21) (Some b))))
  eval_guarded o = eval_operated f n s o (place 1 8) b_is_not_zero above_one _ _ _ (judged_guarded o) eval_test eval_above

-- ---- what they mean in annotations

pub meant_two : (o : InfixOp) (m n : ℤ) → Means o m n (applied o (number m) (number n))
meant_two o m n f =
    let step = meant_step f (values (number m) (number n)) in
    fold-Infix step o (place 1 3) (Name (a_at INTEGER 1)) (Name (b_at INTEGER 12))
    ∙ ap₂ (applied o) (fold-Name step (a_at INTEGER 1)) (fold-Name step (b_at INTEGER 12))

pub meant_truths : (f : Frame) (o : InfixOp) (p q : Bool) → meant f (values (value.Truth p) (value.Truth q)) (two o BOOLEAN) ≡ applied o (value.Truth p) (value.Truth q)
meant_truths f o p q =
    let step = meant_step f (values (value.Truth p) (value.Truth q)) in
    fold-Infix step o (place 1 3) (Name (a_at BOOLEAN 1)) (Name (b_at BOOLEAN 12))
    ∙ ap₂ (applied o) (fold-Name step (a_at BOOLEAN 1)) (fold-Name step (b_at BOOLEAN 12))

-- ---- terms

module _ (p : Program) (entered : VarId → Term) where
  -- a variable stands for its value now
  term_of_a : (subtype : Subtype) (column : ℕ) → term_of p entered (Name (a_at subtype column)) ≡ now_term p a
  term_of_a subtype column = term_with-Name (now_term p) entered (a_at subtype column) ∙ ap (λ j. literal_or (literal_in j) (now_term p a)) (fold-Name expr_step (a_at subtype column)) ∙ ap (λ l. literal_or l (now_term p a)) (not_static subtype)

  term_of_b : (subtype : Subtype) (column : ℕ) → term_of p entered (Name (b_at subtype column)) ≡ now_term p b
  term_of_b subtype column = term_with-Name (now_term p) entered (b_at subtype column) ∙ ap (λ j. literal_or (literal_in j) (now_term p b)) (fold-Name expr_step (b_at subtype column)) ∙ ap (λ l. literal_or l (now_term p b)) (not_static subtype)

  pub term_of_true : term_of p entered (Name (true_at 1 1)) ≡ term.Truth true
  term_of_true = term_with-Name (now_term p) entered (true_at 1 1) ∙ ap (λ j. literal_or (literal_in j) (term.Number (pos 0))) judged_true

  term_of_operation : (o : InfixOp) (at : Place) (left right : CoreExpr) (j : Judged Typing) (t u : Term)
      → judged (Infix o at left right) ≡ j → term_of p entered left ≡ t → term_of p entered right ≡ u → term_of p entered (Infix o at left right) ≡ literal_or (literal_in j) (term.Infix (term_op o) t u)
  term_of_operation o at left right j t u is_j is_t is_u =
      term_with-Infix (now_term p) entered o at left right
      ∙ ap₂ (λ j t. literal_or (literal_in j) (term.Infix (term_op o) t (term_of p entered right))) is_j is_t
      ∙ ap (λ u. literal_or (literal_in j) (term.Infix (term_op o) t u)) is_u

  pub term_of_two : (o : InfixOp) (subtype : Subtype) → term_of p entered (two o subtype) ≡ literal_or (literal_in (two_judged o subtype)) (term.Infix (term_op o) (now_term p a) (now_term p b))
  term_of_two o subtype = term_of_operation o (place 1 3) (Name (a_at subtype 1)) (Name (b_at subtype 12)) _ _ _ (judged_two o subtype) (term_of_a subtype 1) (term_of_b subtype 12)

  pub term_of_one : (o : PrefixOp) (subtype : Subtype) → term_of p entered (one o subtype) ≡ literal_or (literal_in (one_judged o subtype)) (signed_term o (now_term p b))
  term_of_one o subtype =
      term_with-Prefix (now_term p) entered o (place 1 3) (Name (b_at subtype 12))
      ∙ ap₂ (λ j t. literal_or (literal_in j) (signed_term o t)) (judged_one o subtype) (term_of_b subtype 12)

  pub term_of_in_natural : (o : MemberOp) → term_of p entered (in_natural o) ≡ member_term o (now_term p a) (first_term natural_named) (last_term natural_named)
  term_of_in_natural o =
      term_with-InType (now_term p) entered o (place 1 3) (Name (a_at INTEGER 1)) natural_named
      ∙ ap₂ (λ j t. literal_or (literal_in j) (member_term o t (first_term natural_named) (last_term natural_named))) (judged_in_natural o) (term_of_a INTEGER 1)

  -- ---- checks

  -- what an operation asks for, where the terms of its operands are these
  abbrev pub checked_as : InfixOp → (at place : Place) → List Term → CoreExpr → CoreExpr → Judged Typing → (t u whole : Term) → Tree → Tree
  checked_as o at place lefts left right j t u whole rest =
      unless_static (literal_in j) rest (checks p entered lefts left (checks p entered (right_lefts o lefts t) right (operation_check lefts o (base_judged j) at place u whole rest)))

  checks_operation : (o : InfixOp) (at place : Place) (lefts : List Term) (left right : CoreExpr) (j : Judged Typing) (t u whole : Term) (rest : Tree)
      → judged (Infix o at left right) ≡ j → place_of right ≡ place → term_of p entered left ≡ t → term_of p entered right ≡ u → term_of p entered (Infix o at left right) ≡ whole
      → checks p entered lefts (Infix o at left right) rest ≡ checked_as o at place lefts left right j t u whole rest
  checks_operation o at place lefts left right j t u whole rest is_j is_place is_t is_u is_whole =
      checks-Infix p entered lefts o at left right rest
      ∙ ap₂ (λ j t. checked_as o at (place_of right) lefts left right j t (term_of p entered right) (term_of p entered (Infix o at left right)) rest) is_j is_t
      ∙ ap₂ (λ place u. checked_as o at place lefts left right j t u (term_of p entered (Infix o at left right)) rest) is_place is_u
      ∙ ap (λ whole. checked_as o at place lefts left right j t u whole rest) is_whole

  -- where the operation is of integers and not static
  pub checks_two : (o : InfixOp) (rest : Tree) → literal_in (two_judged o INTEGER) ≡ None → base_judged (two_judged o INTEGER) ≡ INTEGER.base → right_lefts o [] (now_term p a) ≡ []
      → checks p entered [] (two o INTEGER) rest ≡ operation_check [] o INTEGER.base (place 1 3) (place 1 12) (now_term p b) (term.Infix (term_op o) (now_term p a) (now_term p b)) rest
  checks_two o rest none base no_lefts =
      let whole : Term = term.Infix (term_op o) (now_term p a) (now_term p b) in
      let after : Tree = operation_check [] o INTEGER.base (place 1 3) (place 1 12) (now_term p b) whole rest in
      checks_operation o (place 1 3) (place 1 12) [] (Name (a_at INTEGER 1)) (Name (b_at INTEGER 12)) (two_judged o INTEGER) (now_term p a) (now_term p b) whole rest
      (judged_two o INTEGER) (fold-Name place_in (b_at INTEGER 12)) (term_of_a INTEGER 1) (term_of_b INTEGER 12) (term_of_two o INTEGER ∙ ap (λ l. literal_or l whole) none)
      ∙ ap₂ (λ l base. unless_static l rest (checks p entered [] (Name (a_at INTEGER 1)) (checks p entered (right_lefts o [] (now_term p a)) (Name (b_at INTEGER 12)) (operation_check [] o base (place 1 3) (place 1 12) (now_term p b) whole rest)))) none base
      ∙ ap (λ lefts. checks p entered [] (Name (a_at INTEGER 1)) (checks p entered lefts (Name (b_at INTEGER 12)) after)) no_lefts
      ∙ checks-Name p entered [] (a_at INTEGER 1) (checks p entered [] (Name (b_at INTEGER 12)) after)
      ∙ checks-Name p entered [] (b_at INTEGER 12) after

  -- `B /= 0`, and `A / B`
  abbrev pub test_term : Term
  test_term = term.Infix (term_op op.NotEqual) (now_term p b) (term.Number (pos 0))

  abbrev pub quotient_term : Term
  quotient_term = term.Infix (term_op op.Divide) (now_term p a) (now_term p b)

  -- what the quotient asks for under the test
  abbrev pub quotient_check : Tree → Tree
  quotient_check rest = operation_check (test_term ∷ []) op.Divide INTEGER.base (place 1 19) (place 1 21) (now_term p b) quotient_term rest

  term_of_test : term_of p entered b_is_not_zero ≡ test_term
  term_of_test = term_of_operation op.NotEqual (place 1 3) (Name (b_at INTEGER 1)) (Number (pos 0) (place 1 6)) _ _ _ judged_test (term_of_b INTEGER 1) (term_with-Number (now_term p) entered (pos 0) (place 1 6))

  term_of_quotient : term_of p entered a_over_b ≡ quotient_term
  term_of_quotient = term_of_operation op.Divide (place 1 19) (Name (a_at INTEGER 17)) (Name (b_at INTEGER 21)) _ _ _ judged_quotient (term_of_a INTEGER 17) (term_of_b INTEGER 21)

  -- the test asks for nothing
  checks_test : (rest : Tree) → checks p entered [] b_is_not_zero rest ≡ rest
  checks_test rest =
      checks_operation op.NotEqual (place 1 3) _ [] (Name (b_at INTEGER 1)) (Number (pos 0) (place 1 6)) _ _ _ _ rest judged_test refl refl refl refl
      ∙ checks-Name p entered [] (b_at INTEGER 1) (checks p entered [] (Number (pos 0) (place 1 6)) rest)
      ∙ checks-Number p entered [] (pos 0) (place 1 6) rest

  checks_quotient : (rest : Tree) → checks p entered (test_term ∷ []) a_over_b rest ≡ quotient_check rest
  checks_quotient rest =
      let lefts : List Term = test_term ∷ [] in
      checks_operation op.Divide (place 1 19) (place 1 21) lefts (Name (a_at INTEGER 17)) (Name (b_at INTEGER 21)) _ _ _ _ rest judged_quotient (fold-Name place_in (b_at INTEGER 21)) refl (term_of_b INTEGER 21) term_of_quotient
      ∙ checks-Name p entered lefts (a_at INTEGER 17) (checks p entered lefts (Name (b_at INTEGER 21)) (quotient_check rest))
      ∙ checks-Name p entered lefts (b_at INTEGER 21) (quotient_check rest)

  -- nor does the comparison
  checks_above : (rest : Tree) → checks p entered (test_term ∷ []) above_one rest ≡ quotient_check rest
  checks_above rest =
      let lefts : List Term = test_term ∷ [] in
      checks_operation op.Greater (place 1 23) _ lefts a_over_b (Number (pos 1) (place 1 25)) _ _ _ _ rest judged_above refl refl refl refl
      ∙ checks_quotient (checks p entered lefts (Number (pos 1) (place 1 25)) rest)
      ∙ ap quotient_check (checks-Number p entered lefts (pos 1) (place 1 25) rest)

  pub checks_guarded : (rest : Tree) → checks p entered [] (guarded op.AndThen) rest ≡ quotient_check rest
  checks_guarded rest =
      checks_operation op.AndThen (place 1 8) _ [] b_is_not_zero above_one _ test_term _ _ rest (judged_guarded op.AndThen) refl term_of_test refl refl
      ∙ checks_test (checks p entered (test_term ∷ []) above_one rest)
      ∙ checks_above rest
