-- The readers of statements keep the laws of readers.
use Rattle.std.specs.Prelude.{⊤}
use Rattle.std.proofs.Common.{◌≡◌, ℕ, zero, suc, ◌-◌, ◌<◌, true, List, [], ◌∷◌, ◌++◌, map, Option, Some, None, is_some, refl, sym, ap, subst, ◌∙◌, append_assoc, arith}
use Rattle.std.proofs.lemmas.Option.{none-some}
use Rattle.std.proofs.lemmas.List.{append-nil}
use Rattle.spx_text.specs.declared.place.Place.{Place}
use Rattle.spx_tree.specs.declared.token.Kind.{Kind}
use Rattle.spx_tree.specs.declared.token.Kind.TheVariants as k
use Rattle.spx_tree.specs.declared.expression.Layer.TheVariants as layer
use Rattle.spx_tree.specs.declared.expression.Expr.{Expr}
use Rattle.spx_tree.specs.declared.statement.Closing.{Closing}
use Rattle.spx_tree.specs.declared.statement.Choice.{Choice}
use Rattle.spx_tree.specs.declared.statement.Alternative.{Alternative, out-Alternative}
use Rattle.spx_tree.specs.declared.statement.Arm.{Arm, out-Arm}
use Rattle.spx_tree.specs.declared.statement.AssertionKind.{AssertionKind}
use Rattle.spx_tree.specs.declared.statement.AssertionKind.TheVariants as assertion
use Rattle.spx_tree.specs.declared.statement.Scheme.{Scheme}
use Rattle.spx_tree.specs.declared.statement.Scheme.TheVariants.{While, For, Endless}
use Rattle.spx_tree.specs.declared.statement.Stmt.{Stmt, Stmt-F, out-Stmt}
use Rattle.spx_tree.specs.declared.statement.Stmt.TheVariants.{Null, Assignment, If, Case, Loop, Assertion, Exit, outs-Null, outs-Assignment, outs-If, outs-Case, outs-Loop, outs-Assertion, outs-Exit}
use Rattle.spx_tree.specs.Form.{Form, ItsPlace, bare, placed, keeps}
use Rattle.spx_tree.specs.Written.{written_name, program, annotation, assertion_word, joined, optional, elsif_arms, all_arms, written_upper, written_choice, written_choices, written_constraint, written_direction, written_range, written_scheme, written_when, written_expr, written_stmt, written_arm, written_alternative, written_stmts, separated}
use Rattle.spx_tree.specs.Grammar.{OneOrMore, IfThere, OfLayer, IsExpr, IsArm, IsChoice, IsAlternative, IsRange, IsName, IsScheme, IsFormed, Within, IsStmt}
use Rattle.spx_tree.proofs.WrittenLevels.{written_level, spelled_stmt, spelled_arm, spelled_alternative, elsif_joined}
use Rattle.spx_cursor.specs.Reading.{Reader, ◌>>=◌, ◌>>◌, pure, peek, sees, refuse, expect, expect_place, item_step}
use Rattle.spx_parse_body.specs.declared.statements.SchemeKind.{SchemeKind}
use Rattle.spx_parse_body.specs.declared.statements.SchemeKind.TheVariants as schemes
use Rattle.spx_parse_body.specs.declared.statements.StmtKind.{StmtKind}
use Rattle.spx_parse_body.specs.declared.statements.StmtKind.TheVariants as kinds
use Rattle.spx_parse_body.specs.Statements as read
use Rattle.spx_parse_body.specs.Statements.{null_statement, assignment, upper, choice, more_choices, some_choices, choices_by, choices, arm, elsif_arm, if_statement, alternative, more_alternatives, alternatives, case_statement, range, constraint, constraint_below, while_scheme, direction, type_below, for_scheme, scheme, loop_statement, when_part, exit_statement, assertion_statement, noted_stmt, stmt_of, next_stmt, stmt_by, stmt, sees_stmt, more_stmts, some_stmts, stmts_below, stmts}
use Rattle.spx_parse_body.proofs.Callers.Loops.{Shrinks}
use Rattle.spx_parse_body.proofs.Callers.Lawful.{Ends, Any, Sees, Always, just}
use Rattle.spx_parse_body.proofs.Callers.Good.{Good, Starts, Opens, Adds, no_level, good_bind, good_then, good_as, good_before, good_given, good_more, good_pure, good_refuse, good_expect, good_expect_place, good_identifier, good_choose, list_shrinks, opens_bind, opens_place, starts_bind, starts_choose, starts_deeper, starts_expect, starts_open, starts_place}
use Rattle.spx_parse_body.proofs.Callers.Separated.{all_added, good_if_seen, good_separated, good_some_items, items_shrinks, joined_added, sees_kind, separated_shrinks}
use Rattle.spx_parse_body.proofs.Callers.ExpressionsGood.{name_good, name_starts, expression_good, predicate_after_starts, simple_expression_good, expression_below_good, simple_expression_below_good}

-- ---- what is written and asked, by the last level

-- a statement whose last level is this
pub spelled_as : (x : Stmt) (y : Stmt-F Stmt Alternative Arm) → out-Stmt x ≡ y → written_stmt x ≡ written_level y
spelled_as x y e = spelled_stmt x ∙ ap written_level e

fits_as : (levels : ℕ) (x : Stmt) (y : Stmt-F Stmt Alternative Arm) → out-Stmt x ≡ y → IsFormed levels (Within levels) y → IsStmt levels x
fits_as levels x y e f = subst (IsFormed levels (Within levels)) (sym e) f

-- statements one level down
abbrev pub IsInner : ℕ → List Stmt → Type 0
IsInner levels xs = OneOrMore (Within levels) xs

-- an arm of a statement within so many levels
abbrev pub FitsArm : ℕ → Arm → Type 0
FitsArm levels x = IsArm levels (Within levels) (out-Arm x)

abbrev pub made_arm : Place → Expr → List Stmt → Arm
made_arm place condition body = record { place = place; condition = condition; body = body }

-- arms, the first of which is after the word "if"
abbrev pub written_arms : List Arm → List Form
written_arms xs = all_arms (map written_arm xs)

-- statements after the word "else"
abbrev pub written_else : List Stmt → List Form
written_else xs = bare program k.Else ∷ written_stmts xs

elsif_added : (xs : List Arm) (x : Arm) → elsif_arms (map written_arm xs) ++ written_arm x k.Elsif ≡ elsif_arms (map written_arm (xs ++ x ∷ []))
elsif_added xs x =
    ap (λ (fs : List Form). fs ++ written_arm x k.Elsif) (elsif_joined xs) ∙ joined_added (λ a. written_arm a k.Elsif) xs x ∙ sym (elsif_joined (xs ++ x ∷ []))

arms_adds : (levels : ℕ) → Adds (λ x. written_arm x k.Elsif) (FitsArm levels) written_arms (OneOrMore (FitsArm levels))
arms_adds levels [] x f g = absurd f
arms_adds levels (y ∷ ys) x f g =
    (append_assoc (written_arm y k.If) (elsif_arms (map written_arm ys)) (written_arm x k.Elsif) ∙ ap (λ (fs : List Form). written_arm y k.If ++ fs) (elsif_added ys x), (f.0, all_added (FitsArm levels) ys x f.1 g))

-- ---- readers

null_starts : {L P : Type 0} {on : List Form → Type 0} (levels : ℕ) → ((fs : List Form) → on fs → peek program fs ≡ Some k.Null) → Starts L P written_stmt (IsStmt levels) [] on null_statement null_statement
unfolding null_statement
null_starts levels here =
    starts_bind (starts_place program k.Null here refl) (λ place.
    good_bind (good_expect program k.Semicolon) (λ u.
    good_pure (Null place) (λ l w. sym (spelled_as (Null place) _ (outs-Null place))) (λ l w. fits_as levels (Null place) _ (outs-Null place) tt)))

stmt_ends : (levels : ℕ) → Ends written_stmt (IsStmt levels) []
stmt_ends levels = ((null_starts {L = ⊤} {P = ⊤} {on = λ fs. peek program fs ≡ Some k.Null} levels (λ fs here. here)).good.law tt tt).ends

word_keeps : (kind : AssertionKind) → keeps (assertion_word kind) ≡ ItsPlace
word_keeps assertion.Assert = refl
word_keeps assertion.Check = refl

assertion_starts : {L P : Type 0} {on : List Form → Type 0} (kind : AssertionKind) (levels : ℕ) → ((fs : List Form) → on fs → peek annotation fs ≡ Some (assertion_word kind))
    → Starts L P written_stmt (IsStmt levels) [] on (assertion_statement kind levels) (assertion_statement kind (suc levels))
unfolding assertion_statement
assertion_starts kind levels here =
    starts_bind (predicate_after_starts (assertion_word kind) levels (word_keeps kind) here) (λ x.
    good_pure (Assertion kind x.place x.condition) (λ l w. sym (spelled_as (Assertion kind x.place x.condition) _ (outs-Assertion kind x.place x.condition))) (λ l w. fits_as levels (Assertion kind x.place x.condition) _ (outs-Assertion kind x.place x.condition) w.1))

when_starts : {L P : Type 0} (levels : ℕ) → Starts L P written_when (IsExpr levels) [] (Sees (sees program k.When) true) (when_part levels) (when_part (suc levels))
unfolding when_part
when_starts levels = starts_bind (starts_expect program k.When (sees_kind program k.When) refl) (λ u. good_as (λ l w x f. (refl, f)) (expression_good program levels))

exit_starts : {L P : Type 0} {on : List Form → Type 0} (levels : ℕ) → ((fs : List Form) → on fs → peek program fs ≡ Some k.Exit) → Starts L P written_stmt (IsStmt levels) [] on (exit_statement levels) (exit_statement (suc levels))
unfolding exit_statement
exit_starts levels here =
    starts_bind (starts_place program k.Exit here refl) (λ place.
    good_bind (good_if_seen written_when (IsExpr levels) program k.When (when_starts levels)) (λ condition.
    good_bind (good_expect program k.Semicolon) (λ u.
    good_pure (Exit place condition) (λ l w. sym (spelled_as (Exit place condition) _ (outs-Exit place condition))) (λ l w. fits_as levels (Exit place condition) _ (outs-Exit place condition) w.0.1))))

-- ---- what statements start with

-- the word that a loop starts with
abbrev loop_word : SchemeKind → Kind
loop_word schemes.While = k.While
loop_word schemes.For = k.For
loop_word schemes.Endless = k.Loop

-- the next form has the kind that a statement starts with, in program text or in annotation text
abbrev StartsAs : Option Kind → Option Kind → StmtKind → Type 0
StartsAs kind noted kinds.Null = kind ≡ Some k.Null
StartsAs kind noted kinds.Assignment = kind ≡ Some k.Identifier
StartsAs kind noted kinds.If = kind ≡ Some k.If
StartsAs kind noted kinds.Case = kind ≡ Some k.Case
StartsAs kind noted (kinds.Loop scheme) = kind ≡ Some (loop_word scheme)
StartsAs kind noted kinds.Exit = kind ≡ Some k.Exit
StartsAs kind noted (kinds.Assertion asserted) = noted ≡ Some (assertion_word asserted)

starts_as : (kind noted : Option Kind) (found x : StmtKind) → StartsAs kind noted found → Some found ≡ Some x → StartsAs kind noted x
starts_as kind noted found x s e = subst (StartsAs kind noted) (some_is found x e) s
  where
    some_is : (a b : StmtKind) → Some a ≡ Some b → a ≡ b
    some_is a b e = cc

noted_is : (kind noted : Option Kind) (x : StmtKind) → noted_stmt noted ≡ Some x → StartsAs kind noted x
noted_is kind (Some k.Assert) x e = starts_as kind (Some k.Assert) (kinds.Assertion assertion.Assert) x refl e
noted_is kind (Some k.Check) x e = starts_as kind (Some k.Check) (kinds.Assertion assertion.Check) x refl e
noted_is kind _ x e = absurd (none-some x e)

stmt_is : (kind noted : Option Kind) (x : StmtKind) → stmt_of kind noted ≡ Some x → StartsAs kind noted x
stmt_is (Some k.Null) noted x e = starts_as (Some k.Null) noted kinds.Null x refl e
stmt_is (Some k.Identifier) noted x e = starts_as (Some k.Identifier) noted kinds.Assignment x refl e
stmt_is (Some k.If) noted x e = starts_as (Some k.If) noted kinds.If x refl e
stmt_is (Some k.Case) noted x e = starts_as (Some k.Case) noted kinds.Case x refl e
stmt_is (Some k.While) noted x e = starts_as (Some k.While) noted (kinds.Loop schemes.While) x refl e
stmt_is (Some k.For) noted x e = starts_as (Some k.For) noted (kinds.Loop schemes.For) x refl e
stmt_is (Some k.Loop) noted x e = starts_as (Some k.Loop) noted (kinds.Loop schemes.Endless) x refl e
stmt_is (Some k.Exit) noted x e = starts_as (Some k.Exit) noted kinds.Exit x refl e
stmt_is _ noted x e = noted_is _ noted x e

-- what is seen where this statement comes next
next_is : (x : StmtKind) (fs : List Form) → next_stmt fs ≡ Some x → StartsAs (peek program fs) (peek annotation fs) x
next_is x fs e = stmt_is (peek program fs) (peek annotation fs) x e

-- ---- choices

-- a choice of a case statement within so many levels
abbrev pub FitsChoice : ℕ → Choice → Type 0
FitsChoice levels x = IsChoice (levels - 1) x

-- what the choices of an alternative are
abbrev pub FitChoices : ℕ → Option (List Choice) → Type 0
FitChoices levels xs = IfThere (OneOrMore (FitsChoice levels)) xs

upper_starts : {P : Type 0} (levels : ℕ) → Starts (0 < levels) P written_upper (OfLayer layer.Sum (levels - 1)) [] (Sees (sees program k.DoubleDot) true) (upper levels) (upper (suc levels))
unfolding upper
upper_starts levels = starts_bind (starts_expect program k.DoubleDot (sees_kind program k.DoubleDot) refl) (λ u. good_as (λ l w x f. (refl, f)) (simple_expression_below_good program levels))

choice_good : {P : Type 0} (levels : ℕ) → Good (0 < levels) P written_choice (FitsChoice levels) [] Any (choice levels) (choice (suc levels))
unfolding choice
choice_good levels =
    good_bind (simple_expression_below_good program levels) (λ low.
    good_bind (good_if_seen written_upper (OfLayer layer.Sum (levels - 1)) program k.DoubleDot (upper_starts levels)) (λ high.
    good_pure (record { low = low; high = high }) (λ l w. refl) (λ l w. record { low = w.0.1; high = w.1 })))

some_choices_good : {P : Type 0} (levels : ℕ) → Good (0 < levels) P (separated (bare program k.Bar) written_choice) (OneOrMore (FitsChoice levels)) [] Any (some_choices levels) (some_choices (suc levels))
unfolding some_choices more_choices
some_choices_good levels = good_separated written_choice (FitsChoice levels) program k.Bar (sees program k.Bar) (λ t xs ys. refl) refl (sees_kind program k.Bar) refl (choice_good levels)

pub choices_shrinks : (levels : ℕ) → 0 < levels → Shrinks (sees program k.Bar) (item_step (expect program k.Bar >> choice levels))
choices_shrinks levels some = separated_shrinks written_choice (FitsChoice levels) program k.Bar (sees program k.Bar) (λ t xs ys. refl) refl (sees_kind program k.Bar) refl (choice_good levels) some

others_after : {P : Type 0} (levels : ℕ) (others : Option ⊤) → Good (0 < levels) P written_choices (FitChoices levels) (optional (just program k.Others) others) Any (choices_by levels others) (choices_by (suc levels) others)
others_after levels (Some others) = good_pure None (λ l w. refl) (λ l w. tt)
others_after levels None = good_bind (some_choices_good levels) (λ xs. good_pure (Some xs) (λ l w. refl) (λ l w. w.1))

choices_good : {P : Type 0} (levels : ℕ) → Good (0 < levels) P written_choices (FitChoices levels) [] Any (choices levels) (choices (suc levels))
unfolding choices
choices_good levels = good_bind (good_if_seen (just program k.Others) Always program k.Others (starts_expect program k.Others (sees_kind program k.Others) refl)) (λ others. others_after levels others)

-- an alternative of a statement within so many levels
abbrev pub FitsAlternative : ℕ → Alternative → Type 0
FitsAlternative levels x = IsAlternative levels (Within levels) (out-Alternative x)

abbrev pub made_alternative : Option (List Choice) → List Stmt → Alternative
made_alternative choices body = record { choices = choices; body = body }

abbrev pub written_alternatives : List Alternative → List Form
written_alternatives xs = joined (map written_alternative xs)

-- ---- ranges

range_good : {L P : Type 0} (levels : ℕ) → Good L P written_range (IsRange levels) [] Any (range levels) (range (suc levels))
unfolding range
range_good levels =
    good_bind (simple_expression_good program levels) (λ low.
    good_bind (good_expect program k.DoubleDot) (λ u.
    good_bind (simple_expression_good program levels) (λ high.
    good_pure (record { low = low; high = high }) (λ l w. simp append_assoc) (λ l w. record { low = w.0.0.1; high = w.1 }))))

pub constraint_starts : {L P : Type 0} {on : List Form → Type 0} (levels : ℕ) → ((fs : List Form) → on fs → peek program fs ≡ Some k.Range) → Starts L P written_constraint (IsRange levels) [] on (constraint levels) (constraint (suc levels))
unfolding constraint
constraint_starts levels here = starts_bind (starts_expect program k.Range here refl) (λ u. good_as (λ l w x f. (refl, f)) (range_good levels))

constraint_below_starts : {P : Type 0} {on : List Form → Type 0} (levels : ℕ) → ((fs : List Form) → on fs → peek program fs ≡ Some k.Range)
    → Starts (0 < levels) P written_constraint (IsRange (levels - 1)) [] on (constraint_below levels) (constraint_below (suc levels))
unfolding constraint_below
constraint_below_starts {on = on} zero here =
    let next : Starts ⊤ ⊤ written_constraint (IsRange 0) [] on (constraint 0) (constraint 1) = constraint_starts 0 here in
    record {
      good = record { law = λ l w. absurd (omega arith); scans = λ l. absurd (omega arith); scans' = next.good.scans tt; grows = λ l w. absurd (omega arith) };
      takes = λ l fs on. absurd (omega arith);
      takes' = λ fs on. next.takes tt fs on;
    }
constraint_below_starts {P} {on} (suc n) here =
    let e : n ≡ suc n - 1 = omega arith in
    subst (λ (j : ℕ). Starts (0 < suc n) P written_constraint (IsRange j) [] on (constraint n) (constraint (suc n))) e (constraint_starts n here)

-- ---- the scheme of a loop

while_opens : {P : Type 0} {on : List Form → Type 0} (levels : ℕ) → ((fs : List Form) → on fs → peek program fs ≡ Some k.While) → Opens (0 < levels) P written_scheme (IsScheme (levels - 1)) [] on (while_scheme levels) (while_scheme (suc levels))
unfolding while_scheme
while_opens levels here =
    opens_bind (opens_place program k.While here refl) (λ place.
    good_bind (expression_below_good program levels) (λ condition.
    good_pure (While place condition) (λ l w. refl) (λ l w. w.1)))

direction_text : (seen : Option ⊤) → optional (just program k.Reverse) seen ≡ written_direction (is_some seen)
direction_text None = refl
direction_text (Some u) = refl

direction_good : {L P : Type 0} → Good L P written_direction Always [] Any direction direction
unfolding direction
direction_good =
    good_bind (good_if_seen (just program k.Reverse) Always program k.Reverse (starts_expect program k.Reverse (sees_kind program k.Reverse) refl)) (λ seen.
    good_pure (is_some seen) (λ l w. direction_text seen) (λ l w. tt))

-- name one level down
type_below_good : {P : Type 0} (levels : ℕ) → Good (0 < levels) P (written_name program) (IsName (levels - 1)) [] Any (type_below levels) (type_below (suc levels))
unfolding type_below
type_below_good zero = record { law = λ l w. absurd (omega arith); scans = λ l. absurd (omega arith); scans' = (name_good {L = ⊤} {P = ⊤} program zero).scans tt; grows = λ l w. absurd (omega arith) }
type_below_good {P} (suc n) =
    let e : n ≡ suc n - 1 = omega arith in
    subst (λ (j : ℕ). Good (0 < suc n) P (written_name program) (IsName j) [] Any (type_below (suc n)) (type_below (suc (suc n)))) e (name_good program n)

for_opens : {P : Type 0} {on : List Form → Type 0} (levels : ℕ) → ((fs : List Form) → on fs → peek program fs ≡ Some k.For) → Opens (0 < levels) P written_scheme (IsScheme (levels - 1)) [] on (for_scheme levels) (for_scheme (suc levels))
unfolding for_scheme
for_opens levels here =
    opens_bind (opens_place program k.For here refl) (λ place.
    good_bind (good_identifier program) (λ subject.
    good_bind (good_expect_place program k.In) (λ word.
    good_bind direction_good (λ is_reverse.
    good_bind (type_below_good levels) (λ type_name.
    good_bind (good_if_seen written_constraint (IsRange (levels - 1)) program k.Range (constraint_below_starts levels (sees_kind program k.Range))) (λ bounds.
    good_pure (For (record { place = place; name = subject; word = word; is_reverse = is_reverse; type_name = type_name; bounds = bounds })) (λ l w. simp append_assoc) (λ l w. (w.0.1, w.1))))))))

-- what reads a loop after its scheme and the word "loop"
abbrev turns_of : Reader (List Stmt) → Scheme → Place → Reader Stmt
turns_of reads scheme word = reads >>= λ body. expect_place program k.End >>= λ end. expect_place program k.Loop >>= λ last. expect program k.Semicolon >>= λ u. pure (Loop scheme word body (record { end = end; word = last }))

-- ---- statements

-- What reads statements one level down, at a number of levels and at the next.
module _ (inner inner' : Reader (List Stmt)) (levels : ℕ) (good : Good (0 < levels) ⊤ written_stmts (IsInner levels) [] Any inner inner') where
  assignment_starts : {L P : Type 0} {on : List Form → Type 0} → ((fs : List Form) → on fs → peek program fs ≡ Some k.Identifier) → Starts L P written_stmt (IsStmt levels) [] on (assignment inner levels) (assignment inner' (suc levels))
  unfolding assignment
  assignment_starts here =
      starts_bind (name_starts program levels here) (λ target.
      good_bind (good_expect program k.Assignment) (λ u.
      good_bind (expression_good program levels) (λ value.
      good_bind (good_expect program k.Semicolon) (λ v.
      good_pure (Assignment target value) (λ l w. let e = spelled_as (Assignment target value) _ (outs-Assignment target value) in simp (append_assoc, e)) (λ l w. fits_as levels (Assignment target value) _ (outs-Assignment target value) (w.0.0.0.1, w.0.1))))))

  -- an arm after its word
  arm_good : {P : Type 0} (word : Kind) (place : Place) → Good (0 < levels) P (λ x. written_arm x word) (FitsArm levels) (placed program word place ∷ []) Any (arm inner levels place) (arm inner' (suc levels) place)
  unfolding arm
  arm_good word place =
      good_bind (expression_below_good program levels) (λ condition.
      good_bind (good_expect program k.Then) (λ u.
      good_bind (good_given (λ l. l) (λ l w. tt) good) (λ body.
      good_pure (made_arm place condition body) (λ l w. let e = spelled_arm (made_arm place condition body) word in simp (append_assoc, e)) (λ l w. (w.0.0.1, w.1)))))

  elsif_starts : {P : Type 0} → Starts (0 < levels) P (λ x. written_arm x k.Elsif) (FitsArm levels) [] (Sees (sees program k.Elsif) true) (elsif_arm inner levels) (elsif_arm inner' (suc levels))
  unfolding elsif_arm
  elsif_starts = starts_bind (starts_place program k.Elsif (sees_kind program k.Elsif) refl) (λ place. arm_good k.Elsif place)

  pub elsif_shrinks : 0 < levels → Shrinks (sees program k.Elsif) (item_step (elsif_arm inner levels))
  elsif_shrinks some = list_shrinks (0 < levels) ⊤ (λ x. written_arm x k.Elsif) (FitsArm levels) written_arms (OneOrMore (FitsArm levels)) (arms_adds levels) (sees program k.Elsif) (λ t xs ys. refl) refl elsif_starts some

  arms_good : {P : Type 0} (first : Arm) → Good (0 < levels) (P × FitsArm levels first) written_arms (OneOrMore (FitsArm levels)) (written_arm first k.If) Any (read.elsif_arms inner levels (first ∷ [])) (read.elsif_arms inner' (suc levels) (first ∷ []))
  unfolding read.elsif_arms
  arms_good {P} first =
      good_before (append-nil (written_arm first k.If))
      (good_given (λ l. l) (λ l w. (w.0, (w.1, tt)))
      (good_more (0 < levels) P (λ x. written_arm x k.Elsif) (FitsArm levels) written_arms (OneOrMore (FitsArm levels)) (arms_adds levels) (sees program k.Elsif) (λ t xs ys. refl) refl elsif_starts (first ∷ [])))

  else_starts : {P : Type 0} → Starts (0 < levels) P written_else (IsInner levels) [] (Sees (sees program k.Else) true) (read.else_part inner levels) (read.else_part inner' (suc levels))
  unfolding read.else_part
  else_starts = starts_bind (starts_expect program k.Else (sees_kind program k.Else) refl) (λ u. good_as (λ l w x f. (refl, f)) (good_given (λ l. l) (λ l w. tt) good))

  if_text : (arms : List Arm) (otherwise : Option (List Stmt)) (closing : Closing)
      → (((written_arms arms ++ optional written_else otherwise) ++ placed program k.End closing.end ∷ []) ++ placed program k.If closing.word ∷ []) ++ bare program k.Semicolon ∷ [] ≡ written_stmt (If arms otherwise closing)
  if_text arms None closing = let e = spelled_as (If arms None closing) _ (outs-If arms None closing) in simp (append_assoc, e)
  if_text arms (Some xs) closing = let e = spelled_as (If arms (Some xs) closing) _ (outs-If arms (Some xs) closing) in simp (append_assoc, e)

  if_starts : {L P : Type 0} {on : List Form → Type 0} → ((fs : List Form) → on fs → peek program fs ≡ Some k.If) → Starts L P written_stmt (IsStmt levels) [] on (if_statement inner levels) (if_statement inner' (suc levels))
  unfolding if_statement
  if_starts here =
      starts_open program k.If here levels 0 refl (λ w. omega arith) (λ w. stmt_ends levels) (λ place.
      good_then (arm_good k.If place) (λ first.
      good_then (arms_good first) (λ arms.
      good_bind (good_if_seen written_else (IsInner levels) program k.Else else_starts) (λ otherwise.
      good_bind (good_expect_place program k.End) (λ end.
      good_bind (good_expect_place program k.If) (λ word.
      good_bind (good_expect program k.Semicolon) (λ u.
      good_pure (If arms otherwise (record { end = end; word = word })) (λ l w. if_text arms otherwise (record { end = end; word = word }))
      (λ l w. fits_as levels (If arms otherwise (record { end = end; word = word })) _ (outs-If arms otherwise (record { end = end; word = word })) (l, w.0.0.0.0.1, w.0.0.0.1)))))))))

  -- "when" choices "=>" statements
  alternative_after : {P : Type 0} → Good (0 < levels) P written_alternative (FitsAlternative levels) (bare program k.When ∷ []) Any (choices levels >>= λ xs. expect program k.Arrow >>= λ u. inner >>= λ body. pure (made_alternative xs body))
      (choices (suc levels) >>= λ xs. expect program k.Arrow >>= λ u. inner' >>= λ body. pure (made_alternative xs body))
  alternative_after =
      good_bind (choices_good levels) (λ xs.
      good_bind (good_expect program k.Arrow) (λ u.
      good_bind (good_given (λ l. l) (λ l w. tt) good) (λ body.
      good_pure (made_alternative xs body) (λ l w. let e = spelled_alternative (made_alternative xs body) in simp (append_assoc, e)) (λ l w. (w.0.0.1, w.1)))))

  alternative_good : {P : Type 0} → Good (0 < levels) P written_alternative (FitsAlternative levels) [] Any (alternative inner levels) (alternative inner' (suc levels))
  unfolding alternative
  alternative_good = good_bind (good_expect program k.When) (λ u. alternative_after)

  alternative_starts : {P : Type 0} → Starts (0 < levels) P written_alternative (FitsAlternative levels) [] (Sees (sees program k.When) true) (alternative inner levels) (alternative inner' (suc levels))
  unfolding alternative
  alternative_starts =
      starts_bind (starts_expect program k.When (sees_kind program k.When) refl) (λ u. alternative_after)

  pub alternative_shrinks : 0 < levels → Shrinks (sees program k.When) (item_step (alternative inner levels))
  alternative_shrinks some = items_shrinks written_alternative (FitsAlternative levels) (sees program k.When) (λ t xs ys. refl) refl {L = 0 < levels} alternative_starts some

  alternatives_good : {P : Type 0} → Good (0 < levels) P written_alternatives (OneOrMore (FitsAlternative levels)) [] Any (alternatives inner levels) (alternatives inner' (suc levels))
  unfolding alternatives more_alternatives
  alternatives_good = good_some_items written_alternative (FitsAlternative levels) (sees program k.When) (λ t xs ys. refl) refl alternative_starts alternative_good

  case_text : (place : Place) (selector : Expr) (xs : List Alternative) (closing : Closing)
      → (((((placed program k.Case place ∷ [] ++ written_expr program selector) ++ bare program k.Is ∷ []) ++ written_alternatives xs) ++ placed program k.End closing.end ∷ []) ++ placed program k.Case closing.word ∷ []) ++ bare program k.Semicolon ∷ [] ≡ written_stmt (Case place selector xs closing)
  case_text place selector xs closing = let e = spelled_as (Case place selector xs closing) _ (outs-Case place selector xs closing) in simp (append_assoc, e)

  case_starts : {L P : Type 0} {on : List Form → Type 0} → ((fs : List Form) → on fs → peek program fs ≡ Some k.Case) → Starts L P written_stmt (IsStmt levels) [] on (case_statement inner levels) (case_statement inner' (suc levels))
  unfolding case_statement
  case_starts here =
      starts_open program k.Case here levels 0 refl (λ w. omega arith) (λ w. stmt_ends levels) (λ place.
      good_bind (expression_below_good program levels) (λ selector.
      good_bind (good_expect program k.Is) (λ u.
      good_bind alternatives_good (λ xs.
      good_bind (good_expect_place program k.End) (λ end.
      good_bind (good_expect_place program k.Case) (λ word.
      good_bind (good_expect program k.Semicolon) (λ v.
      good_pure (Case place selector xs (record { end = end; word = word })) (λ l w. case_text place selector xs (record { end = end; word = word }))
      (λ l w. fits_as levels (Case place selector xs (record { end = end; word = word })) _ (outs-Case place selector xs (record { end = end; word = word })) (l, w.0.0.0.0.0.1, w.0.0.0.1)))))))))

  loop_text : (scheme : Scheme) (word : Place) (body : List Stmt) (closing : Closing)
      → ((((written_scheme scheme ++ placed program k.Loop word ∷ []) ++ written_stmts body) ++ placed program k.End closing.end ∷ []) ++ placed program k.Loop closing.word ∷ []) ++ bare program k.Semicolon ∷ [] ≡ written_stmt (Loop scheme word body closing)
  loop_text scheme word body closing = let e = spelled_as (Loop scheme word body closing) _ (outs-Loop scheme word body closing) in simp (append_assoc, e)

  turns_good : {P : Type 0} (scheme : Scheme) (word : Place) → (P → IsScheme (levels - 1) scheme) → Good (0 < levels) P written_stmt (IsStmt levels) (written_scheme scheme ++ placed program k.Loop word ∷ []) Any (turns_of inner scheme word) (turns_of inner' scheme word)
  turns_good scheme word fits =
      good_bind (good_given (λ l. l) (λ l w. tt) good) (λ body.
      good_bind (good_expect_place program k.End) (λ end.
      good_bind (good_expect_place program k.Loop) (λ last.
      good_bind (good_expect program k.Semicolon) (λ u.
      good_pure (Loop scheme word body (record { end = end; word = last })) (λ l w. loop_text scheme word body (record { end = end; word = last }))
      (λ l w. fits_as levels (Loop scheme word body (record { end = end; word = last })) _ (outs-Loop scheme word body (record { end = end; word = last })) (l, fits w.0.0.0.0, w.0.0.0.1))))))

  -- after a scheme
  after_scheme : {P : Type 0} (scheme : Scheme) → Good (0 < levels) (P × IsScheme (levels - 1) scheme) written_stmt (IsStmt levels) (written_scheme scheme) Any (expect_place program k.Loop >>= turns_of inner scheme) (expect_place program k.Loop >>= turns_of inner' scheme)
  after_scheme scheme = good_bind (good_expect_place program k.Loop) (λ word. turns_good scheme word (λ w. w.0.1))

  -- a plain loop
  plain_opens : {P : Type 0} {on : List Form → Type 0} → ((fs : List Form) → on fs → peek program fs ≡ Some k.Loop)
      → Opens (0 < levels) P written_stmt (IsStmt levels) [] on (expect_place program k.Loop >>= turns_of inner Endless) (expect_place program k.Loop >>= turns_of inner' Endless)
  plain_opens here = opens_bind (opens_place program k.Loop here refl) (λ word. turns_good Endless word (λ w. tt))

  loop_opens : {P : Type 0} {on : List Form → Type 0} (kind : SchemeKind) → ((fs : List Form) → on fs → peek program fs ≡ Some (loop_word kind))
      → Opens (0 < levels) P written_stmt (IsStmt levels) [] on (scheme kind levels >>= λ x. expect_place program k.Loop >>= turns_of inner x) (scheme kind (suc levels) >>= λ x. expect_place program k.Loop >>= turns_of inner' x)
  loop_opens schemes.While here = opens_bind (while_opens levels here) (λ x. after_scheme x)
  loop_opens schemes.For here = opens_bind (for_opens levels here) (λ x. after_scheme x)
  loop_opens schemes.Endless here = plain_opens here

  loop_starts : {L P : Type 0} {on : List Form → Type 0} (kind : SchemeKind) → ((fs : List Form) → on fs → peek program fs ≡ Some (loop_word kind))
      → Starts L P written_stmt (IsStmt levels) [] on (loop_statement inner levels kind) (loop_statement inner' (suc levels) kind)
  unfolding loop_statement
  loop_starts kind here = starts_deeper levels 0 (λ w. omega arith) (λ w. stmt_ends levels) (loop_opens kind here)

  begun_case : {L P : Type 0} (x : StmtKind) → Starts L P written_stmt (IsStmt levels) [] (Sees next_stmt (Some x)) (stmt_by inner levels (Some x)) (stmt_by inner' (suc levels) (Some x))
  begun_case kinds.Null = null_starts levels (next_is kinds.Null)
  begun_case kinds.Assignment = assignment_starts (next_is kinds.Assignment)
  begun_case kinds.If = if_starts (next_is kinds.If)
  begun_case kinds.Case = case_starts (next_is kinds.Case)
  begun_case (kinds.Loop kind) = loop_starts kind (next_is (kinds.Loop kind))
  begun_case kinds.Exit = exit_starts levels (next_is kinds.Exit)
  begun_case (kinds.Assertion kind) = assertion_starts kind levels (next_is (kinds.Assertion kind))

  stmt_case : {L P : Type 0} (x : Option StmtKind) → Good L P written_stmt (IsStmt levels) [] (Sees next_stmt x) (stmt_by inner levels x) (stmt_by inner' (suc levels) x)
  stmt_case None = good_refuse (λ l w. stmt_ends levels)
  stmt_case (Some x) = (begun_case x).good

  stmt_good : {L P : Type 0} → Good L P written_stmt (IsStmt levels) [] Any (stmt inner levels) (stmt inner' (suc levels))
  unfolding stmt
  stmt_good = good_choose next_stmt (λ t xs ys. refl) (stmt_by inner levels) (stmt_by inner' (suc levels)) refl refl stmt_case

  some_case : {L P : Type 0} (x : Option StmtKind) → is_some x ≡ true → Starts L P written_stmt (IsStmt levels) [] (Sees next_stmt x) (stmt_by inner levels x) (stmt_by inner' (suc levels) x)
  some_case None e = absurd cc
  some_case (Some x) e = begun_case x

  stmt_begins : {L P : Type 0} → Starts L P written_stmt (IsStmt levels) [] (Sees sees_stmt true) (stmt inner levels) (stmt inner' (suc levels))
  unfolding stmt
  stmt_begins = starts_choose next_stmt (λ t xs ys. refl) (stmt_by inner levels) (stmt_by inner' (suc levels)) stmt_good (λ fs here. some_case (next_stmt fs) here)

  pub stmt_shrinks : Shrinks sees_stmt (item_step (stmt inner levels))
  stmt_shrinks = items_shrinks written_stmt (IsStmt levels) sees_stmt (λ t xs ys. refl) refl {L = ⊤} stmt_begins tt

  some_stmts_good : {L P : Type 0} → Good L P written_stmts (OneOrMore (IsStmt levels)) [] Any (some_stmts inner levels) (some_stmts inner' (suc levels))
  unfolding some_stmts more_stmts
  some_stmts_good = good_some_items written_stmt (IsStmt levels) sees_stmt (λ t xs ys. refl) refl stmt_begins stmt_good

-- ---- level by level

pub stmts_below_good : (levels : ℕ) → Good (0 < levels) ⊤ written_stmts (IsInner levels) [] Any (stmts_below levels) (stmts_below (suc levels))
unfolding stmts_below
stmts_below_good zero = record { law = λ l w. absurd (omega arith); scans = λ l. absurd (omega arith); scans' = (some_stmts_good (stmts_below zero) refuse 0 no_level {L = ⊤} {P = ⊤}).scans tt; grows = λ l w. absurd (omega arith) }
stmts_below_good (suc n) = some_stmts_good (stmts_below n) (stmts_below (suc n)) n (stmts_below_good n)

pub arms_shrinks : (levels : ℕ) → 0 < levels → Shrinks (sees program k.Elsif) (item_step (elsif_arm (stmts_below levels) levels))
arms_shrinks levels some = elsif_shrinks (stmts_below levels) (stmts_below (suc levels)) levels (stmts_below_good levels) some

pub alternatives_shrinks : (levels : ℕ) → 0 < levels → Shrinks (sees program k.When) (item_step (alternative (stmts_below levels) levels))
alternatives_shrinks levels some = alternative_shrinks (stmts_below levels) (stmts_below (suc levels)) levels (stmts_below_good levels) some

pub stmts_shrinks : (levels : ℕ) → Shrinks sees_stmt (item_step (stmt (stmts_below levels) levels))
stmts_shrinks levels = stmt_shrinks (stmts_below levels) (stmts_below (suc levels)) levels (stmts_below_good levels)

pub stmts_good : {L P : Type 0} (levels : ℕ) → Good L P written_stmts (OneOrMore (IsStmt levels)) [] Any (stmts levels) (stmts (suc levels))
unfolding stmts
stmts_good levels = some_stmts_good (stmts_below levels) (stmts_below (suc levels)) levels (stmts_below_good levels)
