-- A term with b for every a has the value of the term, where a and b have one value.
use Rattle.std.proofs.Common.{◌≡◌, ℕ, ◌+◌, Bool, true, false, Option, Some, None, refl, sym, ap, ◌∙◌, subst, if◌then◌else◌}
use Rattle.spx_term.specs.declared.term.BoundVariable.{BoundVariable}
use Rattle.spx_term.specs.declared.term.Name.{Name}
use Rattle.spx_term.specs.declared.term.TernaryOp.{TernaryOp}
use Rattle.spx_term.specs.declared.term.TernaryOp.TheVariants as ternary
use Rattle.spx_term.specs.declared.term.Term.{Term}
use Rattle.spx_term.specs.declared.term.Term.TheVariants.{Number, Truth, Variable, Blank, Prefix, Infix, Unary, Binary, Ternary}
use Rattle.spx_term.specs.declared.value.Value.{Value}
use Rattle.spx_term.specs.declared.value.Value.TheVariants as value
use Rattle.spx_term.specs.Equality.{same_term}
use Rattle.spx_term.specs.Substitution.{is_free, raised, levels}
use Rattle.spx_term.specs.Values.{Types}
use Rattle.spx_term.specs.Meaning.{Valuation, bound, with_value_at, value_of}
use Rattle.spx_term.proofs.Equality.{same_term-Decides}
use Rattle.spx_term.proofs.Terms.{Cases, induct, fold-Number, fold-Truth, fold-Variable, fold-Blank, fold-Prefix, fold-Infix, fold-Unary, fold-Binary, fold-Ternary}
use Rattle.spx_kernel.specs.Quantifiers.{stands_alone}
use Rattle.spx_kernel.specs.Rewriting.{Change, put, change_step, change, rewritten}
use Rattle.spx_kernel.proofs.QuantifierLaws.{alone, elsewhere, not_bound, alike_prefix, alike_infix, alike_unary, alike_binary, alike_update, alike_quantified}

module _ (types : Types) (a b : Term) (a_scoped : stands_alone a ≡ true) (b_scoped : stands_alone b ≡ true) (v : Valuation) (same : value_of types v a ≡ value_of types v b) where
  -- a valuation with other values of bound variables
  abbrev Near : Valuation → Type 0
  Near w = (x : Name) → is_free x.symbol ≡ true → w x ≡ v x

  near_under : (w : Valuation) (d : BoundVariable) (z : Value) → Near w → Near (with_value_at w (bound d) z)
  near_under w d z near x free = elsewhere w (bound d) x z (not_bound x d free) ∙ near x free

  -- what a change of a term is
  record Changed (t : Term) (c : Change) : Type 0 where
    before : c.before ≡ t
    after : (k : ℕ) (w : Valuation) → Near w → value_of types w (c.after k) ≡ value_of types w t

  put_changed : (t s : Term) (after : ℕ → Term) (found : ℕ → Bool) → s ≡ t → ((k : ℕ) (w : Valuation) → Near w → value_of types w (after k) ≡ value_of types w t) → Changed t (put a b s after found)
  put_changed t s after found is h = record { before = is; after = λ k w near. by_test k w near (same_term s (raised k a)) refl } where
    by_test : (k : ℕ) (w : Valuation) → Near w → (test : Bool) → same_term s (raised k a) ≡ test → value_of types w (if test then raised k b else after k) ≡ value_of types w t
    by_test k w near true e =
        alone types b b_scoped k w v near ∙ sym same ∙ sym (alone types a a_scoped k w v near) ∙ ap (value_of types w) (sym ((same_term-Decides s (raised k a)).0 e) ∙ is)
    by_test k w near false e = h k w near

  abbrev Kept : Term → Type 0
  Kept t = Changed t (change a b t)

  to : (t : Term) (c : Change) → change a b t ≡ c → Changed t c → Kept t
  to t c is h = subst (Changed t) (sym is) h

  ternary_kept : (o : TernaryOp) (x y z : Term) → Kept x → Kept y → Kept z → Kept (Ternary o x y z)
  unfolding change
  ternary_kept o x y z p q r =
      to (Ternary o x y z) _ (fold-Ternary (change_step a b) o x y z)
      (put_changed (Ternary o x y z) (Ternary o (change a b x).before (change a b y).before (change a b z).before) (λ k. Ternary o ((change a b x).after k) ((change a b y).after k) ((change a b z).after (k + levels o))) _
      (λ i. Ternary o (p.before i) (q.before i) (r.before i))
      (λ k w near. by_op o k w near))
    where
      by_op : (o : TernaryOp) (k : ℕ) (w : Valuation) → Near w → value_of types w (Ternary o ((change a b x).after k) ((change a b y).after k) ((change a b z).after (k + levels o))) ≡ value_of types w (Ternary o x y z)
      by_op (ternary.Update t) k w near = alike_update types w w t ((change a b x).after k) ((change a b y).after k) ((change a b z).after (k + 0)) x y z (p.after k w near) (q.after k w near) (r.after (k + 0) w near)
      by_op (ternary.Quantified f d) k w near =
          alike_quantified types w w f d d ((change a b x).after k) ((change a b y).after k) ((change a b z).after (k + 1)) x y z (p.after k w near) (q.after k w near)
          (λ n. r.after (k + 1) (with_value_at w (bound d) (value.Number n)) (near_under w d (value.Number n) near))

  kept_cases : Cases Kept
  unfolding change
  kept_cases = record {
    number = λ n. to (Number n) _ (fold-Number (change_step a b) n) (put_changed (Number n) (Number n) _ _ refl (λ k w near. refl));
    truth = λ x. to (Truth x) _ (fold-Truth (change_step a b) x) (put_changed (Truth x) (Truth x) _ _ refl (λ k w near. refl));
    variable = λ x. to (Variable x) _ (fold-Variable (change_step a b) x) (put_changed (Variable x) (Variable x) _ _ refl (λ k w near. refl));
    blank = λ id. to (Blank id) _ (fold-Blank (change_step a b) id) (put_changed (Blank id) (Blank id) _ _ refl (λ k w near. refl));
    prefix = λ o x p. to (Prefix o x) _ (fold-Prefix (change_step a b) o x)
        (put_changed (Prefix o x) (Prefix o (change a b x).before) _ _ (ap (Prefix o) p.before) (λ k w near. alike_prefix types w w o ((change a b x).after k) x (p.after k w near)));
    «infix» = λ o x y p q. to (Infix o x y) _ (fold-Infix (change_step a b) o x y)
        (put_changed (Infix o x y) (Infix o (change a b x).before (change a b y).before) _ _ (λ i. Infix o (p.before i) (q.before i)) (λ k w near. alike_infix types w w o ((change a b x).after k) ((change a b y).after k) x y (p.after k w near) (q.after k w near)));
    unary = λ o x p. to (Unary o x) _ (fold-Unary (change_step a b) o x)
        (put_changed (Unary o x) (Unary o (change a b x).before) _ _ (ap (Unary o) p.before) (λ k w near. alike_unary types w w o ((change a b x).after k) x (p.after k w near)));
    binary = λ o x y p q. to (Binary o x y) _ (fold-Binary (change_step a b) o x y)
        (put_changed (Binary o x y) (Binary o (change a b x).before (change a b y).before) _ _ (λ i. Binary o (p.before i) (q.before i)) (λ k w near. alike_binary types w w o ((change a b x).after k) ((change a b y).after k) x y (p.after k w near) (q.after k w near)));
    ternary = ternary_kept;
  }

  pub rewritten_value : (t r : Term) → rewritten a b t ≡ Some r → value_of types v r ≡ value_of types v t
  unfolding rewritten
  rewritten_value t r h = by_test ((change a b t).found 0) h where
    some_is : (x y : Term) → ◌≡◌ {A = Option Term} (Some x) (Some y) → x ≡ y
    some_is x y h = cc

    by_test : (test : Bool) → (if test then Some ((change a b t).after 0) else None) ≡ Some r → value_of types v r ≡ value_of types v t
    by_test true h = ap (value_of types v) (sym (some_is ((change a b t).after 0) r h)) ∙ (induct Kept kept_cases t).after 0 v (λ x free. refl)
    by_test false h = absurd (cc)
