-- What the functions of a step give at each form of a term.
use Rattle.std.proofs.Common.{◌≡◌, ℕ, ℤ, Bool, true, ◌&&◌, ap}
use Rattle.spx_term.specs.declared.term.Name.{Name}
use Rattle.spx_term.specs.declared.term.TermOp.{TermOp}
use Rattle.spx_term.specs.declared.term.TernaryOp.{TernaryOp}
use Rattle.spx_term.specs.declared.term.Term.{Term}
use Rattle.spx_term.specs.declared.term.Term.TheVariants.{Number, Truth, Variable, Infix, Ternary}
use Rattle.spx_term.proofs.Terms.{fold-Number, fold-Truth, fold-Variable, fold-Blank, fold-Prefix, fold-Infix, fold-Unary, fold-Binary, fold-Ternary}
use Rattle.spx_kernel.specs.Quantifiers.{Scope, name_scoped, ternary_scoped, scoped_step, is_scoped, opened_name, opened_ternary, opened_step, opened_under}

pub ruleset term_folds = (fold-Number, fold-Truth, fold-Variable, fold-Blank, fold-Prefix, fold-Infix, fold-Unary, fold-Binary, fold-Ternary)

-- ---- whether a term is numbered by depth

module _ (scope : Scope) where
  pub scoped-Number : (n : ℤ) → is_scoped scope (Number n) ≡ true
  unfolding is_scoped
  scoped-Number n = ap (λ (h : Scope → Bool). h scope) (fold-Number scoped_step n)

  pub scoped-Truth : (b : Bool) → is_scoped scope (Truth b) ≡ true
  unfolding is_scoped
  scoped-Truth b = ap (λ (h : Scope → Bool). h scope) (fold-Truth scoped_step b)

  pub scoped-Variable : (name : Name) → is_scoped scope (Variable name) ≡ name_scoped name.symbol name scope
  unfolding is_scoped
  scoped-Variable name = ap (λ (h : Scope → Bool). h scope) (fold-Variable scoped_step name)

  pub scoped-Infix : (o : TermOp) (a b : Term) → is_scoped scope (Infix o a b) ≡ (is_scoped scope a && is_scoped scope b)
  unfolding is_scoped
  scoped-Infix o a b = ap (λ (h : Scope → Bool). h scope) (fold-Infix scoped_step o a b)

  pub scoped-Ternary : (o : TernaryOp) (a b c : Term) → is_scoped scope (Ternary o a b c) ≡ ternary_scoped o (λ s. is_scoped s a) (λ s. is_scoped s b) (λ s. is_scoped s c) scope
  unfolding is_scoped
  scoped-Ternary o a b c = ap (λ (h : Scope → Bool). h scope) (fold-Ternary scoped_step o a b c)

-- ---- a term for the variable of a quantifier

module _ (k : ℕ) (t : Term) where
  pub opened-Number : (n : ℤ) → opened_under k t (Number n) ≡ Number n
  unfolding opened_under
  opened-Number n = ap (λ (h : ℕ → Term). h k) (fold-Number (opened_step t) n)

  pub opened-Variable : (name : Name) → opened_under k t (Variable name) ≡ opened_name t name.symbol name k
  unfolding opened_under
  opened-Variable name = ap (λ (h : ℕ → Term). h k) (fold-Variable (opened_step t) name)

  pub opened-Infix : (o : TermOp) (a b : Term) → opened_under k t (Infix o a b) ≡ Infix o (opened_under k t a) (opened_under k t b)
  unfolding opened_under
  opened-Infix o a b = ap (λ (h : ℕ → Term). h k) (fold-Infix (opened_step t) o a b)

  pub opened-Ternary : (o : TernaryOp) (a b c : Term) → opened_under k t (Ternary o a b c) ≡ opened_ternary o (λ n. opened_under n t a) (λ n. opened_under n t b) (λ n. opened_under n t c) k
  unfolding opened_under
  opened-Ternary o a b c = ap (λ (h : ℕ → Term). h k) (fold-Ternary (opened_step t) o a b c)

pub ruleset scoped_forms = (scoped-Number, scoped-Truth, scoped-Variable, scoped-Infix, scoped-Ternary)

pub ruleset opened_forms = (opened-Number, opened-Variable, opened-Infix, opened-Ternary)
