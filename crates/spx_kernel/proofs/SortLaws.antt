-- Deeper terms, opened bodies and rewritten terms have the sort of the term.
use Rattle.std.proofs.Common.{◌≡◌, ℕ, suc, ◌+◌, ◌==◌, Bool, true, false, ◌&&◌, [], ◌∷◌, ◌++◌, length, Option, Some, None, refl, sym, ap, ap₂, ◌∙◌, subst, if◌then◌else◌}
use Rattle.std.proofs.lemmas.Bool.{and_parts}
use Rattle.spx_term.specs.declared.term.Name.{Name}
use Rattle.spx_term.specs.declared.term.Sort.TheVariants.{Integer}
use Rattle.spx_term.specs.declared.term.Symbol.{Symbol}
use Rattle.spx_term.specs.declared.term.Symbol.TheVariants.{Now, Entry, First, Last, New, Bound}
use Rattle.spx_term.specs.declared.term.TermOp.{TermOp}
use Rattle.spx_term.specs.declared.term.TermPrefix.{TermPrefix}
use Rattle.spx_term.specs.declared.term.UnaryOp.{UnaryOp}
use Rattle.spx_term.specs.declared.term.BinaryOp.{BinaryOp}
use Rattle.spx_term.specs.declared.term.TernaryOp.{TernaryOp}
use Rattle.spx_term.specs.declared.term.TernaryOp.TheVariants as ternary
use Rattle.spx_term.specs.declared.term.Term.{Term}
use Rattle.spx_term.specs.declared.term.Term.TheVariants.{Number, Truth, Variable, Blank, Prefix, Infix, Unary, Binary, Ternary}
use Rattle.spx_term.specs.Equality.{same_name, same_term}
use Rattle.spx_term.specs.Values.{Types}
use Rattle.spx_term.specs.Sorts.{one, both, three, sort_of_prefix, sort_of_op, sort_of_unary, sort_of_binary, sort_of_ternary, sort_step, sort_of}
use Rattle.spx_term.specs.Meaning.{bound}
use Rattle.spx_term.specs.Substitution.{deeper_name, deeper_op, raised_step, raised, levels}
use Rattle.spx_term.proofs.Equality.{same_name-Decides, same_term-Decides}
use Rattle.spx_term.proofs.Terms.{Cases, induct, fold-Number, fold-Truth, fold-Variable, fold-Blank, fold-Prefix, fold-Infix, fold-Unary, fold-Binary, fold-Ternary}
use Rattle.spx_kernel.specs.Quantifiers.{Scope, is_bound_in, name_scoped, scoped_step, is_scoped, shallower, opened_name, opened_step, opened_under, opened}
use Rattle.spx_kernel.specs.Rewriting.{Change, put, change_step, change, rewritten}
use Rattle.spx_kernel.proofs.QuantifierLaws.{at_scope}

module _ (types : Types) where
  abbrev pub Alike : Term → Term → Type 0
  Alike a b = sort_of types a ≡ sort_of types b

  -- forms whose parts have equal sorts
  pub sort_prefix : (o : TermPrefix) (a b : Term) → Alike a b → Alike (Prefix o a) (Prefix o b)
  sort_prefix o a b p = fold-Prefix (sort_step types) o a ∙ ap (one (sort_of_prefix o)) p ∙ sym (fold-Prefix (sort_step types) o b)

  pub sort_infix : (o : TermOp) (a b c d : Term) → Alike a c → Alike b d → Alike (Infix o a b) (Infix o c d)
  sort_infix o a b c d p q = fold-Infix (sort_step types) o a b ∙ ap₂ (both (sort_of_op o)) p q ∙ sym (fold-Infix (sort_step types) o c d)

  pub sort_unary : (o : UnaryOp) (a b : Term) → Alike a b → Alike (Unary o a) (Unary o b)
  sort_unary o a b p = fold-Unary (sort_step types) o a ∙ ap (one (sort_of_unary types o)) p ∙ sym (fold-Unary (sort_step types) o b)

  pub sort_binary : (o : BinaryOp) (a b c d : Term) → Alike a c → Alike b d → Alike (Binary o a b) (Binary o c d)
  sort_binary o a b c d p q = fold-Binary (sort_step types) o a b ∙ ap₂ (both (sort_of_binary types o)) p q ∙ sym (fold-Binary (sort_step types) o c d)

  pub sort_ternary : (o u : TernaryOp) (a b c d e f : Term) → sort_of_ternary types o ≡ sort_of_ternary types u → Alike a d → Alike b e → Alike c f → Alike (Ternary o a b c) (Ternary u d e f)
  sort_ternary o u a b c d e f h p q r =
      fold-Ternary (sort_step types) o a b c ∙ (λ i. three (h i) (p i) (q i) (r i)) ∙ sym (fold-Ternary (sort_step types) u d e f)

  same_names : (x y : Name) → x.sort ≡ y.sort → Alike (Variable x) (Variable y)
  same_names x y h = fold-Variable (sort_step types) x ∙ ap Some h ∙ sym (fold-Variable (sort_step types) y)

  -- the variable of a quantifier does not count
  deeper_sort : (k : ℕ) (o : TernaryOp) → sort_of_ternary types (deeper_op k o) ≡ sort_of_ternary types o
  unfolding sort_of_ternary
  deeper_sort k (ternary.Quantified q n) = refl
  deeper_sort k (ternary.Update t) = refl

  module _ (k : ℕ) where
    abbrev Raised : Term → Type 0
    Raised t = Alike (raised k t) t

    raised_cases : Cases Raised
    unfolding raised
    raised_cases = record {
      number = λ n. ap (sort_of types) (fold-Number (raised_step k) n);
      truth = λ b. ap (sort_of types) (fold-Truth (raised_step k) b);
      variable = λ x. ap (sort_of types) (fold-Variable (raised_step k) x) ∙ same_names (deeper_name k x) x refl;
      blank = λ id. ap (sort_of types) (fold-Blank (raised_step k) id);
      prefix = λ o a p. ap (sort_of types) (fold-Prefix (raised_step k) o a) ∙ sort_prefix o (raised k a) a p;
      «infix» = λ o a b p q. ap (sort_of types) (fold-Infix (raised_step k) o a b) ∙ sort_infix o (raised k a) (raised k b) a b p q;
      unary = λ o a p. ap (sort_of types) (fold-Unary (raised_step k) o a) ∙ sort_unary o (raised k a) a p;
      binary = λ o a b p q. ap (sort_of types) (fold-Binary (raised_step k) o a b) ∙ sort_binary o (raised k a) (raised k b) a b p q;
      ternary = λ o a b c p q r. ap (sort_of types) (fold-Ternary (raised_step k) o a b c) ∙ sort_ternary (deeper_op k o) o (raised k a) (raised k b) (raised k c) a b c (deeper_sort k o) p q r;
    }

    raised_sort : (t : Term) → Raised t
    raised_sort = induct Raised raised_cases

  -- ---- opened bodies

  module _ (t : Term) (integer : sort_of types t ≡ Some Integer) where
    abbrev Opened : Term → Type 0
    Opened u = (k : ℕ) (scope : Scope) → is_scoped scope u ≡ true → Alike (opened_under k t u) u

    at_depth : (k : ℕ) (f g : ℕ → Term) → f ≡ g → sort_of types (f k) ≡ sort_of types (g k)
    at_depth k f g h = ap (λ (f : ℕ → Term). sort_of types (f k)) h

    name_opened : (k : ℕ) (scope : Scope) (s : Symbol) (x : Name) → name_scoped s x scope ≡ true → Alike (opened_name t s x k) (Variable x)
    name_opened k scope (Bound b) x h = by_depth (b.depth == 1) where
      name_sort : x.sort ≡ Integer
      name_sort = ap (λ (y : Name). y.sort) ((same_name-Decides x (bound b)).0 (and_parts (same_name x (bound b)) (is_bound_in scope b) h).0)

      by_depth : (test : Bool) → sort_of types (if test then raised k t else Variable (record { symbol = Bound (shallower b); sort = x.sort })) ≡ sort_of types (Variable x)
      by_depth true = raised_sort k t ∙ integer ∙ ap Some (sym name_sort) ∙ sym (fold-Variable (sort_step types) x)
      by_depth false = same_names (record { symbol = Bound (shallower b); sort = x.sort }) x refl
    name_opened k scope (Now n) x h = refl
    name_opened k scope (Entry n) x h = refl
    name_opened k scope (First n) x h = refl
    name_opened k scope (Last n) x h = refl
    name_opened k scope (New n) x h = refl

    ternary_opened : (o : TernaryOp) (a b c : Term) → Opened a → Opened b → Opened c → Opened (Ternary o a b c)
    unfolding is_scoped opened_under sort_of_ternary
    ternary_opened (ternary.Update id) a b c p q r k j h =
        let all = sym (at_scope j _ _ (fold-Ternary scoped_step (ternary.Update id) a b c)) ∙ h in
        let x = and_parts (is_scoped j a) (is_scoped j b && is_scoped j c) all in
        let y = and_parts (is_scoped j b) (is_scoped j c) x.1 in
        at_depth k _ _ (fold-Ternary (opened_step t) (ternary.Update id) a b c)
        ∙ sort_ternary (ternary.Update id) (ternary.Update id) (opened_under k t a) (opened_under k t b) (opened_under k t c) a b c refl (p k j x.0) (q k j y.0) (r k j y.1)
    ternary_opened (ternary.Quantified f n) a b c p q r k j h =
        let all = sym (at_scope j _ _ (fold-Ternary scoped_step (ternary.Quantified f n) a b c)) ∙ h in
        let depth = and_parts (n.depth == suc (length j)) (is_scoped j a && (is_scoped j b && is_scoped (j ++ n ∷ []) c)) all in
        let x = and_parts (is_scoped j a) (is_scoped j b && is_scoped (j ++ n ∷ []) c) depth.1 in
        let y = and_parts (is_scoped j b) (is_scoped (j ++ n ∷ []) c) x.1 in
        at_depth k _ _ (fold-Ternary (opened_step t) (ternary.Quantified f n) a b c)
        ∙ sort_ternary (ternary.Quantified f (shallower n)) (ternary.Quantified f n) (opened_under k t a) (opened_under k t b) (opened_under (suc k) t c) a b c refl (p k j x.0) (q k j y.0) (r (suc k) (j ++ n ∷ []) y.1)

    opened_cases : Cases Opened
    unfolding is_scoped opened_under
    opened_cases = record {
      number = λ n k j h. at_depth k _ _ (fold-Number (opened_step t) n);
      truth = λ b k j h. at_depth k _ _ (fold-Truth (opened_step t) b);
      variable = λ x k j h. at_depth k _ _ (fold-Variable (opened_step t) x) ∙ name_opened k j x.symbol x (sym (at_scope j _ _ (fold-Variable scoped_step x)) ∙ h);
      blank = λ id k j h. at_depth k _ _ (fold-Blank (opened_step t) id);
      prefix = λ o a p k j h. at_depth k _ _ (fold-Prefix (opened_step t) o a) ∙ sort_prefix o (opened_under k t a) a (p k j (sym (at_scope j _ _ (fold-Prefix scoped_step o a)) ∙ h));
      «infix» = λ o a b p q k j h.
          let x = and_parts (is_scoped j a) (is_scoped j b) (sym (at_scope j _ _ (fold-Infix scoped_step o a b)) ∙ h) in
          at_depth k _ _ (fold-Infix (opened_step t) o a b) ∙ sort_infix o (opened_under k t a) (opened_under k t b) a b (p k j x.0) (q k j x.1);
      unary = λ o a p k j h. at_depth k _ _ (fold-Unary (opened_step t) o a) ∙ sort_unary o (opened_under k t a) a (p k j (sym (at_scope j _ _ (fold-Unary scoped_step o a)) ∙ h));
      binary = λ o a b p q k j h.
          let x = and_parts (is_scoped j a) (is_scoped j b) (sym (at_scope j _ _ (fold-Binary scoped_step o a b)) ∙ h) in
          at_depth k _ _ (fold-Binary (opened_step t) o a b) ∙ sort_binary o (opened_under k t a) (opened_under k t b) a b (p k j x.0) (q k j x.1);
      ternary = ternary_opened;
    }

    -- a body with a number for its variable has its sort
    pub opened_sort : (scope : Scope) (body : Term) → is_scoped scope body ≡ true → sort_of types (opened t body) ≡ sort_of types body
    opened_sort scope body h = induct Opened opened_cases body 0 scope h

  -- ---- rewritten terms

  module _ (a b : Term) (same : sort_of types a ≡ sort_of types b) where
    record Changed (t : Term) (c : Change) : Type 0 where
      before : c.before ≡ t
      after : (k : ℕ) → Alike (c.after k) t

    put_changed : (t s : Term) (after : ℕ → Term) (found : ℕ → Bool) → s ≡ t → ((k : ℕ) → Alike (after k) t) → Changed t (put a b s after found)
    put_changed t s after found is h = record { before = is; after = λ k. by_test k (same_term s (raised k a)) refl } where
      by_test : (k : ℕ) (test : Bool) → same_term s (raised k a) ≡ test → sort_of types (if test then raised k b else after k) ≡ sort_of types t
      by_test k true e = raised_sort k b ∙ sym same ∙ sym (raised_sort k a) ∙ ap (sort_of types) (sym ((same_term-Decides s (raised k a)).0 e) ∙ is)
      by_test k false e = h k

    abbrev Kept : Term → Type 0
    Kept t = Changed t (change a b t)

    to : (t : Term) (c : Change) → change a b t ≡ c → Changed t c → Kept t
    to t c is h = subst (Changed t) (sym is) h

    kept_cases : Cases Kept
    unfolding change
    kept_cases = record {
      number = λ n. to (Number n) _ (fold-Number (change_step a b) n) (put_changed (Number n) (Number n) _ _ refl (λ k. refl));
      truth = λ x. to (Truth x) _ (fold-Truth (change_step a b) x) (put_changed (Truth x) (Truth x) _ _ refl (λ k. refl));
      variable = λ x. to (Variable x) _ (fold-Variable (change_step a b) x) (put_changed (Variable x) (Variable x) _ _ refl (λ k. refl));
      blank = λ id. to (Blank id) _ (fold-Blank (change_step a b) id) (put_changed (Blank id) (Blank id) _ _ refl (λ k. refl));
      prefix = λ o x p. to (Prefix o x) _ (fold-Prefix (change_step a b) o x)
          (put_changed (Prefix o x) (Prefix o (change a b x).before) _ _ (ap (Prefix o) p.before) (λ k. sort_prefix o ((change a b x).after k) x (p.after k)));
      «infix» = λ o x y p q. to (Infix o x y) _ (fold-Infix (change_step a b) o x y)
          (put_changed (Infix o x y) (Infix o (change a b x).before (change a b y).before) _ _ (λ i. Infix o (p.before i) (q.before i)) (λ k. sort_infix o ((change a b x).after k) ((change a b y).after k) x y (p.after k) (q.after k)));
      unary = λ o x p. to (Unary o x) _ (fold-Unary (change_step a b) o x)
          (put_changed (Unary o x) (Unary o (change a b x).before) _ _ (ap (Unary o) p.before) (λ k. sort_unary o ((change a b x).after k) x (p.after k)));
      binary = λ o x y p q. to (Binary o x y) _ (fold-Binary (change_step a b) o x y)
          (put_changed (Binary o x y) (Binary o (change a b x).before (change a b y).before) _ _ (λ i. Binary o (p.before i) (q.before i)) (λ k. sort_binary o ((change a b x).after k) ((change a b y).after k) x y (p.after k) (q.after k)));
      ternary = λ o x y z p q r. to (Ternary o x y z) _ (fold-Ternary (change_step a b) o x y z)
          (put_changed (Ternary o x y z) (Ternary o (change a b x).before (change a b y).before (change a b z).before) (λ k. Ternary o ((change a b x).after k) ((change a b y).after k) ((change a b z).after (k + levels o))) _ (λ i. Ternary o (p.before i) (q.before i) (r.before i))
          (λ k. sort_ternary o o ((change a b x).after k) ((change a b y).after k) ((change a b z).after (k + levels o)) x y z refl (p.after k) (q.after k) (r.after (k + levels o))));
    }

    -- a term with other terms of the same sort in it has its sort
    pub rewritten_sort : (t r : Term) → rewritten a b t ≡ Some r → sort_of types r ≡ sort_of types t
    unfolding rewritten
    rewritten_sort t r h = by_test ((change a b t).found 0) h where
      some_is : (x y : Term) → ◌≡◌ {A = Option Term} (Some x) (Some y) → x ≡ y
      some_is x y h = cc

      by_test : (test : Bool) → (if test then Some ((change a b t).after 0) else None) ≡ Some r → sort_of types r ≡ sort_of types t
      by_test true h = ap (sort_of types) (sym (some_is ((change a b t).after 0) r h)) ∙ (induct Kept kept_cases t).after 0
      by_test false h = absurd (cc)
