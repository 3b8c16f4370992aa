-- Reading statements (Ada 95 RM 5).
use Rattle.std.specs.Prelude.{⊤, ℕ, zero, suc, Bool, List, [], ◌∷◌, Option, Some, None, is_some}
use Rattle.spx_tree.specs.declared.token.Kind.{Kind}
use Rattle.spx_tree.specs.declared.token.Kind.TheVariants as k
use Rattle.spx_text.specs.declared.place.Place.{Place}
use Rattle.spx_tree.specs.declared.statement.Arm.{Arm}
use Rattle.spx_tree.specs.declared.expression.Expr.{Expr}
use Rattle.spx_tree.specs.declared.expression.Name.{Name}
use Rattle.spx_tree.specs.declared.statement.Choice.{Choice}
use Rattle.spx_tree.specs.declared.statement.Alternative.{Alternative}
use Rattle.spx_tree.specs.declared.statement.Closing.{Closing}
use Rattle.spx_tree.specs.declared.statement.AssertionKind.{AssertionKind}
use Rattle.spx_tree.specs.declared.statement.AssertionKind.TheVariants as assertion
use Rattle.spx_tree.specs.declared.statement.Scheme.{Scheme}
use Rattle.spx_tree.specs.declared.statement.Scheme.TheVariants.{While, For, Endless}
use Rattle.spx_tree.specs.declared.declaration.Range.{Range}
use Rattle.spx_tree.specs.declared.statement.Stmt.{Stmt}
use Rattle.spx_tree.specs.declared.statement.Stmt.TheVariants.{Null, Assignment, If, Case, Loop, Assertion, Exit}
use Rattle.spx_tree.specs.Form.{Form}
use Rattle.spx_tree.specs.Written.{program, annotation, assertion_word}
use Rattle.spx_parse_body.specs.declared.statements.SchemeKind.{SchemeKind}
use Rattle.spx_parse_body.specs.declared.statements.SchemeKind.TheVariants as schemes
use Rattle.spx_parse_body.specs.declared.statements.StmtKind.{StmtKind}
use Rattle.spx_parse_body.specs.declared.statements.StmtKind.TheVariants as kinds
use Rattle.spx_cursor.specs.Reading.{Reader, ◌>>=◌, ◌>>◌, pure, refuse, too_deep, peek, sees, expect, expect_place, identifier, if_seen, deeper, more_items}
use Rattle.spx_parse_body.specs.Expressions.{name, expression, simple_expression, predicate_after, expression_below, simple_expression_below}

-- "null" ";"
unfoldable pub null_statement : Reader Stmt
null_statement = do
  place ← expect_place program k.Null
  expect program k.Semicolon
  pure (Null place)

-- ("assert" | "check") predicate ";", in annotation text
unfoldable pub assertion_statement : AssertionKind → ℕ → Reader Stmt
assertion_statement kind levels = do
  asserted ← predicate_after (assertion_word kind) levels
  pure (Assertion kind asserted.place asserted.condition)

-- "when" expression
unfoldable pub when_part : ℕ → Reader Expr
when_part levels = expect program k.When >> expression program levels

-- "exit" ["when" expression] ";"
unfoldable pub exit_statement : ℕ → Reader Stmt
exit_statement levels = do
  place ← expect_place program k.Exit
  condition ← if_seen program k.When (when_part levels)
  expect program k.Semicolon
  pure (Exit place condition)

-- what a form of annotation text starts
abbrev pub noted_stmt : Option Kind → Option StmtKind
noted_stmt (Some k.Assert) = Some (kinds.Assertion assertion.Assert)
noted_stmt (Some k.Check) = Some (kinds.Assertion assertion.Check)
noted_stmt _ = None

-- what a form starts, by its kind in program text and in annotation text
abbrev pub stmt_of : Option Kind → Option Kind → Option StmtKind
stmt_of (Some k.Null) noted = Some kinds.Null
stmt_of (Some k.Identifier) noted = Some kinds.Assignment
stmt_of (Some k.If) noted = Some kinds.If
stmt_of (Some k.Case) noted = Some kinds.Case
stmt_of (Some k.While) noted = Some (kinds.Loop schemes.While)
stmt_of (Some k.For) noted = Some (kinds.Loop schemes.For)
stmt_of (Some k.Loop) noted = Some (kinds.Loop schemes.Endless)
stmt_of (Some k.Exit) noted = Some kinds.Exit
stmt_of _ noted = noted_stmt noted

-- the statement that comes next
abbrev pub next_stmt : List Form → Option StmtKind
next_stmt fs = stmt_of (peek program fs) (peek annotation fs)

-- a statement comes next
abbrev pub sees_stmt : List Form → Bool
sees_stmt fs = is_some (next_stmt fs)

-- ---- the choices of a case statement (Ada 95 RM 3.8.1), one level down

-- ".." sum
unfoldable pub upper : ℕ → Reader Expr
upper levels = expect program k.DoubleDot >> simple_expression_below program levels

-- sum [".." sum]
unfoldable pub choice : ℕ → Reader Choice
choice levels = do
  low ← simple_expression_below program levels
  high ← if_seen program k.DoubleDot (upper levels)
  pure (record { low = low; high = high })

-- {"|" choice}
unfoldable pub more_choices : ℕ → List Choice → Reader (List Choice)
more_choices levels found = more_items (sees program k.Bar) (expect program k.Bar >> choice levels) found

-- choice {"|" choice}
unfoldable pub some_choices : ℕ → Reader (List Choice)
some_choices levels = choice levels >>= λ x. more_choices levels (x ∷ [])

abbrev pub choices_by : ℕ → Option ⊤ → Reader (Option (List Choice))
choices_by levels (Some others) = pure None
choices_by levels None = some_choices levels >>= λ choices. pure (Some choices)

-- "others" | choice {"|" choice}
unfoldable pub choices : ℕ → Reader (Option (List Choice))
choices levels = if_seen program k.Others (expect program k.Others) >>= choices_by levels

-- ---- ranges (Ada 95 RM 3.5)

-- sum ".." sum
unfoldable pub range : ℕ → Reader Range
range levels = do
  low ← simple_expression program levels
  expect program k.DoubleDot
  high ← simple_expression program levels
  pure (record { low = low; high = high })

-- "range" range
unfoldable pub constraint : ℕ → Reader Range
constraint levels = expect program k.Range >> range levels

-- "range" range one level down
unfoldable pub constraint_below : ℕ → Reader Range
constraint_below zero = too_deep
constraint_below (suc levels) = constraint levels

-- ---- the scheme of a loop (Ada 95 RM 5.5), one level down

-- "while" expression
unfoldable pub while_scheme : ℕ → Reader Scheme
while_scheme levels = do
  place ← expect_place program k.While
  condition ← expression_below program levels
  pure (While place condition)

-- ["reverse"]
unfoldable pub direction : Reader Bool
direction = if_seen program k.Reverse (expect program k.Reverse) >>= λ seen. pure (is_some seen)

-- name one level down
unfoldable pub type_below : ℕ → Reader Name
type_below zero = too_deep
type_below (suc levels) = name program levels

-- "for" identifier "in" ["reverse"] name ["range" range]
unfoldable pub for_scheme : ℕ → Reader Scheme
for_scheme levels = do
  place ← expect_place program k.For
  subject ← identifier program
  word ← expect_place program k.In
  is_reverse ← direction
  type_name ← type_below levels
  bounds ← if_seen program k.Range (constraint_below levels)
  pure (For (record { place = place; name = subject; word = word; is_reverse = is_reverse; type_name = type_name; bounds = bounds }))

-- the scheme of this kind, of which a plain loop has none
abbrev pub scheme : SchemeKind → ℕ → Reader Scheme
scheme schemes.While = while_scheme
scheme schemes.For = for_scheme
scheme schemes.Endless = λ levels. pure Endless

-- "end" word ";"
unfoldable pub closing : Kind → Reader Closing
closing word = do
  end ← expect_place program k.End
  last ← expect_place program word
  expect program k.Semicolon
  pure (record { end = end; word = last })

-- What reads statements one level down is a parameter, and so is the number of levels that are left.
module _ (inner : Reader (List Stmt)) (levels : ℕ) where
  -- name ":=" expression ";"
  unfoldable pub assignment : Reader Stmt
  assignment = do
    target ← name program levels
    expect program k.Assignment
    value ← expression program levels
    expect program k.Semicolon
    pure (Assignment target value)

  -- an arm after its word: expression "then" statements
  unfoldable pub arm : Place → Reader Arm
  arm place = do
    condition ← expression_below program levels
    expect program k.Then
    body ← inner
    pure (record { place = place; condition = condition; body = body })

  -- "elsif" arm
  unfoldable pub elsif_arm : Reader Arm
  elsif_arm = expect_place program k.Elsif >>= arm

  -- {"elsif" arm}
  unfoldable pub elsif_arms : List Arm → Reader (List Arm)
  elsif_arms found = more_items (sees program k.Elsif) elsif_arm found

  -- "else" statements
  unfoldable pub else_part : Reader (List Stmt)
  else_part = expect program k.Else >> inner

  -- "if" arm {"elsif" arm} ["else" statements] "end" "if" ";"
  unfoldable pub if_statement : Reader Stmt
  if_statement = deeper levels 0 (do
    place ← expect_place program k.If
    first ← arm place
    arms ← elsif_arms (first ∷ [])
    otherwise ← if_seen program k.Else else_part
    end ← expect_place program k.End
    word ← expect_place program k.If
    expect program k.Semicolon
    pure (If arms otherwise (record { end = end; word = word })))

  -- "when" choices "=>" statements
  unfoldable pub alternative : Reader Alternative
  alternative = do
    expect program k.When
    choices ← choices levels
    expect program k.Arrow
    body ← inner
    pure (record { choices = choices; body = body })

  unfoldable pub more_alternatives : List Alternative → Reader (List Alternative)
  more_alternatives found = more_items (sees program k.When) alternative found

  -- alternative {alternative}
  unfoldable pub alternatives : Reader (List Alternative)
  alternatives = alternative >>= λ x. more_alternatives (x ∷ [])

  -- "case" expression "is" alternatives "end" "case" ";"
  unfoldable pub case_statement : Reader Stmt
  case_statement = deeper levels 0 (do
    place ← expect_place program k.Case
    selector ← expression_below program levels
    expect program k.Is
    alternatives ← alternatives
    end ← expect_place program k.End
    word ← expect_place program k.Case
    expect program k.Semicolon
    pure (Case place selector alternatives (record { end = end; word = word })))

  -- [scheme] "loop" statements "end" "loop" ";"
  unfoldable pub loop_statement : SchemeKind → Reader Stmt
  loop_statement kind = deeper levels 0 (do
    scheme ← scheme kind levels
    word ← expect_place program k.Loop
    body ← inner
    end ← expect_place program k.End
    last ← expect_place program k.Loop
    expect program k.Semicolon
    pure (Loop scheme word body (record { end = end; word = last })))

  abbrev pub stmt_by : Option StmtKind → Reader Stmt
  stmt_by (Some kinds.Null) = null_statement
  stmt_by (Some kinds.Assignment) = assignment
  stmt_by (Some kinds.If) = if_statement
  stmt_by (Some kinds.Case) = case_statement
  stmt_by (Some (kinds.Loop kind)) = loop_statement kind
  stmt_by (Some kinds.Exit) = exit_statement levels
  stmt_by (Some (kinds.Assertion kind)) = assertion_statement kind levels
  stmt_by None = refuse

  -- null statement | assignment | if statement | case statement | loop statement | exit statement | assertion statement
  unfoldable pub stmt : Reader Stmt
  stmt = λ fs. stmt_by (next_stmt fs) fs

  unfoldable pub more_stmts : List Stmt → Reader (List Stmt)
  more_stmts found = more_items sees_stmt stmt found

  -- statement {statement}
  unfoldable pub some_stmts : Reader (List Stmt)
  some_stmts = stmt >>= λ x. more_stmts (x ∷ [])

-- statements one level down
unfoldable pub stmts_below : ℕ → Reader (List Stmt)
stmts_below zero = too_deep
stmts_below (suc levels) = some_stmts (stmts_below levels) levels

-- statements within so many levels
unfoldable pub stmts : ℕ → Reader (List Stmt)
stmts levels = some_stmts (stmts_below levels) levels
