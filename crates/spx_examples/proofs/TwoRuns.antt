-- Two calls whose ends disagree, and a call that changes what it does not export.
use Rattle.std.proofs.Common.{◌≡◌, ℕ, zero, suc, ◌||◌, pos, false, [], ◌∷◌, Option, None, refl, ap, subst}
use Rattle.std.specs.Prelude.{IsTrue, IsSome, IfSome, ℤ}
use Rattle.std.proofs.lemmas.List.Elements.{All-head}
use Rattle.spx_core.specs.declared.entity.VarId.{VarId}
use Rattle.spx_core.specs.declared.expression.CoreExpr.TheVariants.{Name}
use Rattle.spx_core.specs.Dependency.{derives, imports}
use Rattle.spx_term.specs.declared.value.Value.{Value}
use Rattle.spx_term.specs.declared.value.Value.TheVariants as value
use Rattle.spx_term.specs.Meaning.{value_of_op}
use Rattle.spx_meaning.specs.Frames.{Frame, around}
use Rattle.spx_meaning.specs.Evaluation.{Gives}
use Rattle.spx_meaning.specs.Laws.{Start, Agree, AreDerived, OthersAreKept, TwoRuns}
use Rattle.spx_meaning.specs.Runs.{Ended, call}
use Rattle.spx_meaning.specs.Stores.{Store, look, type_of, is_in, types_of}
use Rattle.spx_examples.specs.Increment.{x}
use Rattle.spx_examples.specs.Flag.{y, y_at}
use Rattle.spx_examples.specs.Copy.{z_at, copy, copy_program}
use Rattle.spx_examples.specs.Variants.{number, inc_without_derives, increment_without_derives}
use Rattle.spx_examples.proofs.IncrementRuns.{body_runs}
use Rattle.spx_examples.proofs.OneVariable.{if_x}
use Rattle.spx_examples.proofs.Statements.{to_end}
use Rattle.spx_examples.proofs.Successor.{x_is}
use Rattle.spx_examples.proofs.Evaluations.{assigns, eval_name, taking}

-- ---- `Copy`

-- X is 7, and Z this number
abbrev from : Option Value → ℤ → Store
from v n = number (pos 7) ∷ v ∷ number n ∷ []

-- around that call
abbrev frame : ℤ → Frame
frame n = around copy_program copy (from None n)

copies : (n : ℕ) (v : Option Value) (m : ℤ) → call copy_program n copy (from v m) ≡ to_end copy (taking (frame m) (from None m) (y_at 5 4) (Name (z_at 5 9)) (Gives (value.Number m)))
copies n v m = ap (to_end copy) (assigns (frame m) n (from None m) (y_at 5 4) (Name (z_at 5 9)) (Gives (value.Number m)) (eval_name (frame m) n (from None m) (z_at 5 9)))

pub copies_1 : (n : ℕ) (v : Option Value) → call copy_program n copy (from v (pos 1)) ≡ Ended (from (number (pos 1)) (pos 1))
copies_1 n v = copies n v (pos 1)

pub copies_2 : (n : ℕ) (v : Option Value) → call copy_program n copy (from v (pos 2)) ≡ Ended (from (number (pos 2)) (pos 2))
copies_2 n v = copies n v (pos 2)

-- its only import is X
only_import : (v : VarId) → IsTrue (imports v copy) → x ≡ v
only_import = if_x (λ b. b || false) refl

in_type : (m : ℤ) → IsTrue (is_in (types_of copy_program) (type_of copy_program (record { 0 = 2 })) (value.Number m)) → (k : ℕ) → let v : VarId = record { 0 = k } in IfSome (look (from None m) v) (λ w. IsTrue (is_in (types_of copy_program) (type_of copy_program v) w))
in_type m lies zero = refl
in_type m lies (suc zero) = tt
in_type m lies (suc (suc zero)) = lies
in_type m lies (suc (suc (suc k))) = tt

starts : (m : ℤ) → IsTrue (is_in (types_of copy_program) (type_of copy_program (record { 0 = 2 })) (value.Number m)) → Start copy_program copy (from None m)
starts m lies = record {
  precondition = refl;
  imports_set = λ v imported. subst (λ w. IsSome (look (from None m) w)) (only_import v imported) refl;
  in_types = λ v. in_type m lies v.0;
}

-- both stores have 7 for X, from which Y is declared to be derived
agree : Agree (λ v. IsTrue (derives v y copy)) (from None (pos 1)) (from None (pos 2))
agree v derived = subst (λ w. look (from None (pos 1)) w ≡ look (from None (pos 2)) w) (if_x (λ b. b || false) refl v derived) refl

pub not_derived : ¬ AreDerived copy_program copy
not_derived law =
    let same = law 0 0 (from None (pos 1)) (from None (pos 2)) (from (number (pos 1)) (pos 1)) (from (number (pos 2)) (pos 2)) (starts (pos 1) refl) (starts (pos 2) refl) (copies_1 0 None) (copies_2 0 None) y refl agree in
    absurd (let e : ⊥ = cc in e)

pub copy_fails : ¬ TwoRuns copy_program
copy_fails laws = not_derived (All-head (AreDerived copy_program) copy [] laws.derived)

-- ---- `Inc` without its dependency relation

pub changes : (n : ℕ) → call increment_without_derives n inc_without_derives (number (pos 0) ∷ []) ≡ Ended (number (pos 1) ∷ [])
unfolding value_of_op
changes n = ap (to_end inc_without_derives) (body_runs (around increment_without_derives inc_without_derives (x_is (pos 0))) n (x_is (pos 0)))

x_in_type : (k : ℕ) → let v : VarId = record { 0 = k } in IfSome (look (x_is (pos 0)) v) (λ w. IsTrue (is_in (types_of increment_without_derives) (type_of increment_without_derives v) w))
x_in_type zero = refl
x_in_type (suc k) = tt

x_starts : Start increment_without_derives inc_without_derives (x_is (pos 0))
x_starts = record {
  precondition = refl;
  imports_set = λ v imported. absurd (let e : ⊥ = cc in e);
  in_types = λ v. x_in_type v.0;
}

pub not_kept : ¬ OthersAreKept increment_without_derives inc_without_derives
not_kept law =
    let same = law 0 (x_is (pos 0)) (x_is (pos 1)) x_starts (changes 0) x refl refl in
    absurd (let e : ⊥ = cc in e)

pub change_fails : ¬ TwoRuns increment_without_derives
change_fails laws = not_kept (All-head (OthersAreKept increment_without_derives) inc_without_derives [] laws.kept)
