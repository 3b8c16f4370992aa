-- Scopes, and a term for the variable of a quantifier, at each form of a term.
use Rattle.std.proofs.Common.{◌≡◌, ℕ, suc, ◌+◌, ℤ, ◌==◌, Bool, true, false, ◌&&◌, [], ◌∷◌, ◌++◌, length, refl, sym, ap, ◌∙◌, arith}
use Rattle.std.proofs.lemmas.List.{length-append}
use Rattle.spx_term.specs.declared.term.BoundVariable.{BoundVariable}
use Rattle.spx_term.specs.declared.term.Name.{Name}
use Rattle.spx_term.specs.declared.term.TermOp.{TermOp}
use Rattle.spx_term.specs.declared.term.TermPrefix.{TermPrefix}
use Rattle.spx_term.specs.declared.term.UnaryOp.{UnaryOp}
use Rattle.spx_term.specs.declared.term.BinaryOp.{BinaryOp}
use Rattle.spx_term.specs.declared.term.TernaryOp.{TernaryOp}
use Rattle.spx_term.specs.declared.term.TernaryOp.TheVariants as ternary
use Rattle.spx_term.specs.declared.term.Term.{Term, Term-F}
use Rattle.spx_term.specs.declared.term.Term.TheVariants.{Number, Truth, Variable, Blank, Prefix, Infix, Unary, Binary, Ternary}
use Rattle.spx_term.specs.Substitution.{levels}
use Rattle.spx_term.proofs.Terms.{fold-Number, fold-Truth, fold-Variable, fold-Blank, fold-Prefix, fold-Infix, fold-Unary, fold-Binary, fold-Ternary}
use Rattle.spx_kernel.specs.Quantifiers.{Scope, name_scoped, ternary_scoped, scoped_step, is_scoped, opened_name, opened_step, opened_under}
use Rattle.spx_kernel.specs.Scopes.{body_scoped, shallower_op}

-- ---- scopes

length_inner : (scope : Scope) (v : BoundVariable) → length (scope ++ v ∷ []) ≡ suc (length scope)
length_inner scope v = omega (arith, length-append scope (v ∷ []))

last_first : (a b c d : Bool) → (a && (b && (c && d))) ≡ (b && (c && (a && d)))
last_first true true true d = refl
last_first true true false d = refl
last_first true false c d = refl
last_first false true true d = refl
last_first false true false d = refl
last_first false false c d = refl

module _ (scope : Scope) where
  pub scoped-Number : (n : ℤ) → is_scoped scope (Number n) ≡ true
  unfolding is_scoped
  scoped-Number n = ap (λ (h : Scope → Bool). h scope) (fold-Number scoped_step n)

  pub scoped-Truth : (b : Bool) → is_scoped scope (Truth b) ≡ true
  unfolding is_scoped
  scoped-Truth b = ap (λ (h : Scope → Bool). h scope) (fold-Truth scoped_step b)

  pub scoped-Variable : (name : Name) → is_scoped scope (Variable name) ≡ name_scoped name.symbol name scope
  unfolding is_scoped
  scoped-Variable name = ap (λ (h : Scope → Bool). h scope) (fold-Variable scoped_step name)

  pub scoped-Blank : (id : ℕ) → is_scoped scope (Blank id) ≡ true
  unfolding is_scoped
  scoped-Blank id = ap (λ (h : Scope → Bool). h scope) (fold-Blank scoped_step id)

  pub scoped-Prefix : (o : TermPrefix) (a : Term) → is_scoped scope (Prefix o a) ≡ is_scoped scope a
  unfolding is_scoped
  scoped-Prefix o a = ap (λ (h : Scope → Bool). h scope) (fold-Prefix scoped_step o a)

  pub scoped-Infix : (o : TermOp) (a b : Term) → is_scoped scope (Infix o a b) ≡ (is_scoped scope a && is_scoped scope b)
  unfolding is_scoped
  scoped-Infix o a b = ap (λ (h : Scope → Bool). h scope) (fold-Infix scoped_step o a b)

  pub scoped-Unary : (o : UnaryOp) (a : Term) → is_scoped scope (Unary o a) ≡ is_scoped scope a
  unfolding is_scoped
  scoped-Unary o a = ap (λ (h : Scope → Bool). h scope) (fold-Unary scoped_step o a)

  pub scoped-Binary : (o : BinaryOp) (a b : Term) → is_scoped scope (Binary o a b) ≡ (is_scoped scope a && is_scoped scope b)
  unfolding is_scoped
  scoped-Binary o a b = ap (λ (h : Scope → Bool). h scope) (fold-Binary scoped_step o a b)

  by_op : (o : TernaryOp) (a b c : Term) → ternary_scoped o (λ s. is_scoped s a) (λ s. is_scoped s b) (λ s. is_scoped s c) scope ≡ (is_scoped scope a && (is_scoped scope b && body_scoped o scope c))
  by_op (ternary.Quantified q v) a b c =
      last_first (v.depth == suc (length scope)) (is_scoped scope a) (is_scoped scope b) (is_scoped (scope ++ v ∷ []) c)
      ∙ ap (λ n. is_scoped scope a && (is_scoped scope b && (v.depth == n && is_scoped (scope ++ v ∷ []) c))) (sym (length_inner scope v))
  by_op (ternary.Update t) a b c = refl

  pub scoped-Ternary : (o : TernaryOp) (a b c : Term) → is_scoped scope (Ternary o a b c) ≡ (is_scoped scope a && (is_scoped scope b && body_scoped o scope c))
  unfolding is_scoped
  scoped-Ternary o a b c = ap (λ (h : Scope → Bool). h scope) (fold-Ternary scoped_step o a b c) ∙ by_op o a b c

pub ruleset scoped_forms = (scoped-Number, scoped-Truth, scoped-Variable, scoped-Blank, scoped-Prefix, scoped-Infix, scoped-Unary, scoped-Binary, scoped-Ternary)

-- ---- a term for the first variable

module _ (k : ℕ) (t : Term) where
  pub opened-Number : (n : ℤ) → opened_under k t (Number n) ≡ Number n
  unfolding opened_under
  opened-Number n = ap (λ (h : ℕ → Term). h k) (fold-Number (opened_step t) n)

  pub opened-Truth : (b : Bool) → opened_under k t (Truth b) ≡ Truth b
  unfolding opened_under
  opened-Truth b = ap (λ (h : ℕ → Term). h k) (fold-Truth (opened_step t) b)

  pub opened-Variable : (name : Name) → opened_under k t (Variable name) ≡ opened_name t name.symbol name k
  unfolding opened_under
  opened-Variable name = ap (λ (h : ℕ → Term). h k) (fold-Variable (opened_step t) name)

  pub opened-Blank : (id : ℕ) → opened_under k t (Blank id) ≡ Blank id
  unfolding opened_under
  opened-Blank id = ap (λ (h : ℕ → Term). h k) (fold-Blank (opened_step t) id)

  pub opened-Prefix : (o : TermPrefix) (a : Term) → opened_under k t (Prefix o a) ≡ Prefix o (opened_under k t a)
  unfolding opened_under
  opened-Prefix o a = ap (λ (h : ℕ → Term). h k) (fold-Prefix (opened_step t) o a)

  pub opened-Infix : (o : TermOp) (a b : Term) → opened_under k t (Infix o a b) ≡ Infix o (opened_under k t a) (opened_under k t b)
  unfolding opened_under
  opened-Infix o a b = ap (λ (h : ℕ → Term). h k) (fold-Infix (opened_step t) o a b)

  pub opened-Unary : (o : UnaryOp) (a : Term) → opened_under k t (Unary o a) ≡ Unary o (opened_under k t a)
  unfolding opened_under
  opened-Unary o a = ap (λ (h : ℕ → Term). h k) (fold-Unary (opened_step t) o a)

  pub opened-Binary : (o : BinaryOp) (a b : Term) → opened_under k t (Binary o a b) ≡ Binary o (opened_under k t a) (opened_under k t b)
  unfolding opened_under
  opened-Binary o a b = ap (λ (h : ℕ → Term). h k) (fold-Binary (opened_step t) o a b)

  open_by : (o : TernaryOp) (a b c : Term) → opened_under k t (Ternary o a b c) ≡ opened_step t (Term-F.Ternary o (λ n. opened_under n t a) (λ n. opened_under n t b) (λ n. opened_under n t c)) k
  unfolding opened_under
  open_by o a b c = ap (λ (h : ℕ → Term). h k) (fold-Ternary (opened_step t) o a b c)

  pub opened-Ternary : (o : TernaryOp) (a b c : Term) → opened_under k t (Ternary o a b c) ≡ Ternary (shallower_op o) (opened_under k t a) (opened_under k t b) (opened_under (k + levels o) t c)
  opened-Ternary (ternary.Quantified q v) a b c = open_by (ternary.Quantified q v) a b c ∙ ap (λ n. Ternary (shallower_op (ternary.Quantified q v)) (opened_under k t a) (opened_under k t b) (opened_under n t c)) (one_more k) where
    one_more : (n : ℕ) → suc n ≡ n + 1
    one_more n = omega arith
  opened-Ternary (ternary.Update id) a b c = open_by (ternary.Update id) a b c ∙ ap (λ n. Ternary (ternary.Update id) (opened_under k t a) (opened_under k t b) (opened_under n t c)) (no_more k) where
    no_more : (n : ℕ) → n ≡ n + 0
    no_more n = omega arith

pub ruleset opened_forms = (opened-Number, opened-Truth, opened-Variable, opened-Blank, opened-Prefix, opened-Infix, opened-Unary, opened-Binary, opened-Ternary)
