-- What closes a statement, read at once.
use Rattle.std.specs.Prelude.{⊤}
use Rattle.std.proofs.Common.{◌≡◌, ℕ, List, [], ◌∷◌, Option, ap}
use Rattle.std.proofs.Math.Path.{fun_ext}
use Rattle.spx_text.specs.declared.place.Place.{Place}
use Rattle.spx_tree.specs.declared.token.Kind.{Kind}
use Rattle.spx_tree.specs.declared.token.Kind.TheVariants as k
use Rattle.spx_tree.specs.declared.expression.Expr.{Expr}
use Rattle.spx_tree.specs.declared.statement.Alternative.{Alternative}
use Rattle.spx_tree.specs.declared.statement.Arm.{Arm}
use Rattle.spx_tree.specs.declared.statement.Closing.{Closing}
use Rattle.spx_tree.specs.declared.statement.Scheme.{Scheme}
use Rattle.spx_tree.specs.declared.statement.Stmt.{Stmt}
use Rattle.spx_tree.specs.declared.statement.Stmt.TheVariants.{If, Case, Loop}
use Rattle.spx_tree.specs.Form.{Form}
use Rattle.spx_tree.specs.Written.{program}
use Rattle.spx_parse_body.specs.declared.statements.SchemeKind.{SchemeKind}
use Rattle.spx_cursor.specs.Reading.{Reader, ◌>>=◌, pure, deeper, expect, expect_place, if_seen}
use Rattle.spx_parse_body.specs.Expressions.{expression_below}
use Rattle.spx_parse_body.proofs.Levels.{three_is}
use Rattle.spx_parse_body.specs.Statements.{closing, arm, elsif_arms, else_part, if_statement, alternatives, case_statement, scheme, loop_statement, stmts_below}

module _ (word : Kind) (make : Closing → Stmt) where
  -- what closes a statement, word by word
  abbrev words : Reader Stmt
  words = expect_place program k.End >>= λ end. expect_place program word >>= λ last. expect program k.Semicolon >>= λ u. pure (make (record { end = end; word = last }))

  -- and as one reader
  abbrev closed : Reader Stmt
  closed = closing word >>= λ c. pure (make c)

  closed_is : words ≡ closed
  unfolding closing
  closed_is = fun_ext (λ fs. three_is (λ (end last : Place) (u : ⊤). record { end = end; word = last }) make (expect_place program word) (expect program k.Semicolon) (expect_place program k.End fs))

module _ (levels : ℕ) (fs : List Form) where
  abbrev if_ending : (List Arm → Option (List Stmt) → Reader Stmt) → Reader Stmt
  if_ending rest = deeper levels 0 (expect_place program k.If >>= λ place. arm (stmts_below levels) levels place >>= λ first. elsif_arms (stmts_below levels) levels (first ∷ []) >>= λ arms. if_seen program k.Else (else_part (stmts_below levels) levels) >>= λ otherwise. rest arms otherwise)

  pub if_statement_is : if_statement (stmts_below levels) levels fs ≡ if_ending (λ arms otherwise. closed k.If (If arms otherwise)) fs
  unfolding if_statement
  if_statement_is = ap (λ (rest : List Arm → Option (List Stmt) → Reader Stmt). if_ending rest fs) (fun_ext (λ arms. fun_ext (λ otherwise. closed_is k.If (If arms otherwise))))

  abbrev case_ending : (Place → Expr → List Alternative → Reader Stmt) → Reader Stmt
  case_ending rest = deeper levels 0 (expect_place program k.Case >>= λ place. expression_below program levels >>= λ selector. expect program k.Is >>= λ u. alternatives (stmts_below levels) levels >>= λ xs. rest place selector xs)

  pub case_statement_is : case_statement (stmts_below levels) levels fs ≡ case_ending (λ place selector xs. closed k.Case (Case place selector xs)) fs
  unfolding case_statement
  case_statement_is = ap (λ (rest : Place → Expr → List Alternative → Reader Stmt). case_ending rest fs) (fun_ext (λ place. fun_ext (λ selector. fun_ext (λ xs. closed_is k.Case (Case place selector xs)))))

  abbrev loop_ending : SchemeKind → (Scheme → Place → List Stmt → Reader Stmt) → Reader Stmt
  loop_ending kind rest = deeper levels 0 (scheme kind levels >>= λ head. expect_place program k.Loop >>= λ word. stmts_below levels >>= λ body. rest head word body)

  pub loop_statement_is : (kind : SchemeKind) → loop_statement (stmts_below levels) levels kind fs ≡ loop_ending kind (λ head word body. closed k.Loop (Loop head word body)) fs
  unfolding loop_statement
  loop_statement_is kind = ap (λ (rest : Scheme → Place → List Stmt → Reader Stmt). loop_ending kind rest fs) (fun_ext (λ head. fun_ext (λ word. fun_ext (λ body. closed_is k.Loop (Loop head word body)))))
