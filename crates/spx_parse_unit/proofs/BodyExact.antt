-- Reading expressions and statements answers exactly, from each index on.
use Rattle.std.specs.Prelude.{⊤}
use Rattle.std.proofs.Common.{◌≡◌, ℕ, suc, Bool, ◌≤◌, List, [], Ok, length, drop, refl, sym, subst, ◌∙◌}
use Rattle.std.proofs.lemmas.List.{append-nil}
use Rattle.spx_tree.specs.declared.expression.Expr.{Expr}
use Rattle.spx_tree.specs.declared.statement.Stmt.{Stmt}
use Rattle.spx_tree.specs.declared.token.Token.{Token}
use Rattle.spx_tree.specs.Form.{Form, forms_of}
use Rattle.spx_tree.specs.Goes.{Answers}
use Rattle.spx_tree.specs.Grammar.{IsStmts}
use Rattle.spx_tree.specs.Written.{written_expr, written_stmts}
use Rattle.spx_tree.proofs.MoreLevels.{layer_more, stmts_more}
use Rattle.spx_parse_unit.specs.Answers.{mark_of}
use Rattle.spx_cursor.specs.Reading.{Outcome}
use Rattle.spx_cursor.specs.Operators.{last_layer}
use Rattle.spx_parse_body.specs.Expressions.{expression_at, IsExprAt}
use Rattle.spx_parse_body.specs.Statements.{stmts}
use Rattle.spx_parse_body.proofs.Callers.Shaped.{AreShaped, shaped_forms}
use Rattle.spx_parse_body.proofs.Callers.Lawful.{Any}
use Rattle.spx_parse_body.proofs.Callers.Exact as exact
use Rattle.spx_parse_body.proofs.Callers.Good.{Good}
use Rattle.spx_parse_body.proofs.Callers.ExpressionsGood.{expression_at_good}
use Rattle.spx_parse_body.proofs.Callers.ExpressionsReach.{expression_at_again, end_free}
use Rattle.spx_parse_body.proofs.Callers.StatementsGood.{stmts_good}
use Rattle.spx_parse_body.proofs.Callers.StatementsReach.{stmts_again}
use Rattle.spx_parse_unit.proofs.Indexed.{Exactly}

module _ (marked : Bool) where
  expr_is : (n : ℕ) (x : Expr) (fs : List Form) → IsExprAt marked n x → fs ≡ written_expr marked x → expression_at marked n fs ≡ Ok (x, [])
  expr_is n x fs f e = (expression_at_again marked n x fs [] f (end_free (last_layer marked)) (e ∙ sym (append-nil (written_expr marked x)))).is

  expr_good : (n : ℕ) → Good ⊤ ⊤ (written_expr marked) (IsExprAt marked n) [] Any (expression_at marked n) (expression_at marked (suc n))
  expr_good n = expression_at_good marked n

  expr_answers : (n : ℕ) (fs : List Form) → AreShaped fs → Answers (written_expr marked) (IsExprAt marked) n fs (expression_at marked n fs)
  expr_answers = exact.answers (written_expr marked) (IsExprAt marked) (expression_at marked) (λ n. (expr_good n).law tt tt) expr_is (λ n. (expr_good n).scans tt) (λ n. (expr_good n).grows tt tt) (λ m n x le f. layer_more m n le (last_layer marked) x f)

  expr_only : (n : ℕ) (fs : List Form) (o : Outcome Expr) → AreShaped fs → Answers (written_expr marked) (IsExprAt marked) n fs o → expression_at marked n fs ≡ o
  expr_only = exact.only_answer (written_expr marked) (IsExprAt marked) (expression_at marked) (λ n. (expr_good n).law tt tt) expr_is (λ n. (expr_good n).scans tt) (λ n. (expr_good n).grows tt tt) (λ m n x le f. layer_more m n le (last_layer marked) x f)

stmts_are : (n : ℕ) (xs : List Stmt) (fs : List Form) → IsStmts n xs → fs ≡ written_stmts xs → stmts n fs ≡ Ok (xs, [])
stmts_are n xs fs f e = (stmts_again n xs fs [] f refl (e ∙ sym (append-nil (written_stmts xs)))).is

body_good : (n : ℕ) → Good ⊤ ⊤ written_stmts (IsStmts n) [] Any (stmts n) (stmts (suc n))
body_good n = stmts_good n

stmts_answers : (n : ℕ) (fs : List Form) → AreShaped fs → Answers written_stmts IsStmts n fs (stmts n fs)
stmts_answers = exact.answers written_stmts IsStmts stmts (λ n. (body_good n).law tt tt) stmts_are (λ n. (body_good n).scans tt) (λ n. (body_good n).grows tt tt) (λ m n xs le f. stmts_more m n le xs f)

stmts_only : (n : ℕ) (fs : List Form) (o : Outcome (List Stmt)) → AreShaped fs → Answers written_stmts IsStmts n fs o → stmts n fs ≡ o
stmts_only = exact.only_answer written_stmts IsStmts stmts (λ n. (body_good n).law tt tt) stmts_are (λ n. (body_good n).scans tt) (λ n. (body_good n).grows tt tt) (λ m n xs le f. stmts_more m n le xs f)

-- The forms before which the code reads are those of the tokens from an index on.
module _ (source : List ℕ) (all : List Token) (from : ℕ) (low : from ≤ length all) (fs : List Form) (view : fs ≡ forms_of source (drop from all)) where
  shaped : AreShaped fs
  shaped = subst AreShaped (sym view) (shaped_forms source (drop from all))

  pub expr_exactly : (marked : Bool) → marked ≡ mark_of (drop from all) → Exactly (written_expr (mark_of (drop from all))) (IsExprAt (mark_of (drop from all))) 200 source all from (expression_at marked 200 fs)
  expr_exactly marked is = subst (λ (m : Bool). Exactly (written_expr m) (IsExprAt m) 200 source all from (expression_at marked 200 fs)) is (record {
    low = low;
    answers = subst (λ (us : List Form). Answers (written_expr marked) (IsExprAt marked) 200 us (expression_at marked 200 fs)) view (expr_answers marked 200 fs shaped);
    only = λ o a. expr_only marked 200 fs o shaped (subst (λ (us : List Form). Answers (written_expr marked) (IsExprAt marked) 200 us o) (sym view) a);
  })

  pub stmts_exactly : Exactly written_stmts IsStmts 200 source all from (stmts 200 fs)
  stmts_exactly = record {
    low = low;
    answers = subst (λ (us : List Form). Answers written_stmts IsStmts 200 us (stmts 200 fs)) view (stmts_answers 200 fs shaped);
    only = λ o a. stmts_only 200 fs o shaped (subst (λ (us : List Form). Answers written_stmts IsStmts 200 us o) (sym view) a);
  }
