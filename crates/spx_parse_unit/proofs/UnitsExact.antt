-- Reading units answers exactly.
use Rattle.std.proofs.Common.{◌≡◌, ℕ, ◌+◌, List, [], Ok, refl, sym, ap, ◌∙◌, arith}
use Rattle.std.proofs.lemmas.List.{append-nil}
use Rattle.spx_tree.specs.declared.subprogram.Unit.{Unit}
use Rattle.spx_tree.specs.Form.{Form}
use Rattle.spx_tree.specs.Goes.{Answers}
use Rattle.spx_tree.specs.Grammar.{IsFile}
use Rattle.spx_tree.specs.Written.{written}
use Rattle.spx_tree.proofs.MoreLevels.{file_more}
use Rattle.spx_cursor.specs.Reading.{Outcome}
use Rattle.spx_parse_unit.specs.Units.{file}
use Rattle.spx_parse_body.proofs.Callers.Shaped.{AreShaped}
use Rattle.spx_parse_body.proofs.Callers.Lawful.{pair_is}
use Rattle.spx_parse_body.proofs.Callers.Exact as exact
use Rattle.spx_parse_unit.proofs.UnitsGood.{file_good}
use Rattle.spx_parse_unit.proofs.UnitsReach.{file_again}

again : (n : ℕ) (xs : List Unit) (fs : List Form) → IsFile n xs → fs ≡ written xs → file n fs ≡ Ok (xs, [])
again n xs fs f e = (file_again n xs fs [] f (λ e. cc) (e ∙ sym (append-nil (written xs)))).is

same_value : (o : Outcome (List Unit)) (x y : List Unit) → o ≡ Ok (x, []) → o ≡ Ok (y, []) → x ≡ y
same_value o x y e f = ap (λ (p : List Unit × List Form). p.0) (pair_is (x, []) (y, []) (sym e ∙ f))

-- What is written is read, so that two files that are written with the same forms are one.
pub one_file : (m n : ℕ) (a b : List Unit) → IsFile m a → IsFile n b → written a ≡ written b → a ≡ b
one_file m n a b f g e =
    let first = again (m + n) a (written a) (file_more m (m + n) (omega arith) a f) refl in
    let second = again (m + n) b (written a) (file_more n (m + n) (omega arith) b g) e in
    same_value (file (m + n) (written a)) a b first second

pub answers : (n : ℕ) (fs : List Form) → AreShaped fs → Answers written IsFile n fs (file n fs)
answers = exact.answers written IsFile file (λ n. (file_good n).law tt tt) again (λ n. (file_good n).scans tt) (λ n. (file_good n).grows tt tt) (λ m n xs le f. file_more m n le xs f)

pub only_answer : (n : ℕ) (fs : List Form) (o : Outcome (List Unit)) → AreShaped fs → Answers written IsFile n fs o → file n fs ≡ o
only_answer = exact.only_answer written IsFile file (λ n. (file_good n).law tt tt) again (λ n. (file_good n).scans tt) (λ n. (file_good n).grows tt tt) (λ m n xs le f. file_more m n le xs f)
