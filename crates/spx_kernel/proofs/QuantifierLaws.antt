-- Deeper terms, bodies of quantifiers with a term for their variable, and new names.
use Rattle.std.proofs.Common.{◌≡◌, ℕ, suc, ◌-◌, ◌<◌, ◌==◌, max, ℤ, Bool, true, false, ◌&&◌, ◌||◌, [], ◌∷◌, ◌++◌, length, refl, sym, ap, ap₂, ◌∙◌, subst, arith, if◌then◌else◌}
use Rattle.std.proofs.lemmas.Bool.{and_parts, eqb-true}
use Rattle.std.proofs.lemmas.Bool.Decides.{nat_tests}
use Rattle.std.proofs.lemmas.List.{length-append}
use Rattle.spx_term.specs.declared.term.BoundVariable.{BoundVariable}
use Rattle.spx_term.specs.declared.term.Name.{Name}
use Rattle.spx_term.specs.declared.term.Symbol.{Symbol}
use Rattle.spx_term.specs.declared.term.Symbol.TheVariants.{Now, Entry, First, Last, New, Bound}
use Rattle.spx_term.specs.declared.term.TermOp.{TermOp}
use Rattle.spx_term.specs.declared.term.TermPrefix.{TermPrefix}
use Rattle.spx_term.specs.declared.term.UnaryOp.{UnaryOp}
use Rattle.spx_term.specs.declared.term.BinaryOp.{BinaryOp}
use Rattle.spx_term.specs.declared.term.TernaryOp.{TernaryOp}
use Rattle.spx_term.specs.declared.term.TernaryOp.TheVariants as ternary
use Rattle.spx_term.specs.declared.term.Quantifier.{Quantifier}
use Rattle.spx_term.specs.declared.term.Term.{Term}
use Rattle.spx_term.specs.declared.term.Term.TheVariants.{Number, Truth, Variable, Blank, Prefix, Infix, Unary, Binary, Ternary}
use Rattle.spx_term.specs.declared.value.Value.{Value}
use Rattle.spx_term.specs.declared.value.Value.TheVariants as value
use Rattle.spx_term.specs.Equality.{same_name}
use Rattle.spx_term.specs.Values.{Types}
use Rattle.spx_term.specs.Substitution.{is_free, deeper, deeper_symbol, deeper_name, raised_step, raised}
use Rattle.spx_term.specs.Meaning.{as_number, as_truth, value_of_prefix, value_of_op, value_of_unary, value_of_binary, value_of_ternary, quantified, Valuation, bound, with_value_at, value_of}
use Rattle.spx_term.proofs.Equality.{same_name-Decides}
use Rattle.spx_term.proofs.Terms.{Cases, induct, fold-Number, fold-Truth, fold-Variable, fold-Blank, fold-Prefix, fold-Infix, fold-Unary, fold-Binary, fold-Ternary, value-Number, value-Truth, value-Variable, value-Blank, value-Prefix, value-Infix, value-Unary, value-Binary, value-Ternary}
use Rattle.spx_term.proofs.FoldingLaws.{quantified_same}
use Rattle.spx_kernel.specs.Quantifiers.{Scope, same_bound, is_bound_in, name_scoped, scoped_step, is_scoped, stands_alone, shallower, opened_name, opened_step, opened_under, opened}
use Rattle.spx_kernel.specs.Names.{number_after, greatest_step, greatest, new}

no : (P : Type 0) → false ≡ true → P
no P h = absurd (cc)

-- ---- values of forms whose parts have equal values

module _ (types : Types) (v w : Valuation) where
  abbrev pub Alike : Term → Term → Type 0
  Alike a b = value_of types v a ≡ value_of types w b

  pub alike_prefix : (o : TermPrefix) (a b : Term) → Alike a b → Alike (Prefix o a) (Prefix o b)
  alike_prefix o a b p = value-Prefix types v o a ∙ ap (value_of_prefix o) p ∙ sym (value-Prefix types w o b)

  pub alike_infix : (o : TermOp) (a b c d : Term) → Alike a c → Alike b d → Alike (Infix o a b) (Infix o c d)
  alike_infix o a b c d p q = value-Infix types v o a b ∙ ap₂ (value_of_op o) p q ∙ sym (value-Infix types w o c d)

  pub alike_unary : (o : UnaryOp) (a b : Term) → Alike a b → Alike (Unary o a) (Unary o b)
  alike_unary o a b p = value-Unary types v o a ∙ ap (value_of_unary types o) p ∙ sym (value-Unary types w o b)

  pub alike_binary : (o : BinaryOp) (a b c d : Term) → Alike a c → Alike b d → Alike (Binary o a b) (Binary o c d)
  alike_binary o a b c d p q = value-Binary types v o a b ∙ ap₂ (value_of_binary types o) p q ∙ sym (value-Binary types w o c d)

  pub alike_update : (t : ℕ) (a b c d e f : Term) → Alike a d → Alike b e → Alike c f → Alike (Ternary (ternary.Update t) a b c) (Ternary (ternary.Update t) d e f)
  alike_update t a b c d e f p q r =
      value-Ternary types v (ternary.Update t) a b c
      ∙ (λ i. value_of_ternary (ternary.Update t) (λ z. p i) (λ z. q i) (λ z. r i) v)
      ∙ sym (value-Ternary types w (ternary.Update t) d e f)

  pub alike_quantified : (k : Quantifier) (m n : BoundVariable) (a b c d e f : Term) → Alike a d → Alike b e
      → ((z : ℤ) → value_of types (with_value_at v (bound m) (value.Number z)) c ≡ value_of types (with_value_at w (bound n) (value.Number z)) f)
      → Alike (Ternary (ternary.Quantified k m) a b c) (Ternary (ternary.Quantified k n) d e f)
  alike_quantified k m n a b c d e f p q under =
      value-Ternary types v (ternary.Quantified k m) a b c
      ∙ ap value.Truth (ap₂ (λ (x y : Value). quantified k (as_number x) (as_number y) (λ z. as_truth (value_of types (with_value_at v (bound m) (value.Number z)) c))) p q
      ∙ quantified_same k (as_number (value_of types w d)) (as_number (value_of types w e)) (λ z. as_truth (value_of types (with_value_at v (bound m) (value.Number z)) c)) (λ z. as_truth (value_of types (with_value_at w (bound n) (value.Number z)) f)) (λ z. ap as_truth (under z)))
      ∙ sym (value-Ternary types w (ternary.Quantified k n) d e f)

-- ---- names

pub differ : (x y : Name) → ((x ≡ y) → ⊥) → same_name x y ≡ false
differ x y f = by_test (same_name x y) refl where
  by_test : (b : Bool) → same_name x y ≡ b → b ≡ false
  by_test true h = absurd (f ((same_name-Decides x y).0 h))
  by_test false h = refl

itself : (x : Name) → same_name x x ≡ true
itself x = (same_name-Decides x x).1 refl

no_variable : BoundVariable
no_variable = record { depth = 0; variable = 0 }

abbrev variable_of : Symbol → BoundVariable
variable_of (Bound b) = b
variable_of _ = no_variable

same_variable : (b c : BoundVariable) → bound b ≡ bound c → b ≡ c
same_variable b c e = ap (λ (name : Name). variable_of name.symbol) e

pub not_bound : (x : Name) (b : BoundVariable) → is_free x.symbol ≡ true → same_name (bound b) x ≡ false
not_bound x b free = differ (bound b) x (λ e. no ⊥ (ap (λ (name : Name). is_free name.symbol) e ∙ free))

other_variable : (b c : BoundVariable) → ((b ≡ c) → ⊥) → same_name (bound b) (bound c) ≡ false
other_variable b c f = differ (bound b) (bound c) (λ e. f (same_variable b c e))

at_test : (b : Bool) (x y z : Value) → b ≡ true → (if b then x else y) ≡ x
at_test true x y z h = refl
at_test false x y z h = no _ h

past_test : (b : Bool) (x y : Value) → b ≡ false → (if b then x else y) ≡ y
past_test true x y h = no _ (sym h)
past_test false x y h = refl

pub here : (v : Valuation) (x : Name) (z : Value) → with_value_at v x z x ≡ z
here v x z = at_test (same_name x x) z (v x) z (itself x)

pub elsewhere : (v : Valuation) (x y : Name) (z : Value) → same_name x y ≡ false → with_value_at v x z y ≡ v y
elsewhere v x y z h = past_test (same_name x y) z (v y) h

-- ---- the variables of a scope

is_variable : (b c : BoundVariable) → same_bound b c ≡ true → b ≡ c
is_variable b c h =
    let p = and_parts (b.depth == c.depth) (b.variable == c.variable) h in
    let depths = eqb-true b.depth c.depth p.0 in
    let variables = eqb-true b.variable c.variable p.1 in
    λ i. record { depth = depths i; variable = variables i }

either : (P : Type 0) (a b : Bool) → (a || b) ≡ true → (a ≡ true → P) → (b ≡ true → P) → P
either P true b h f g = f refl
either P false b h f g = g h

-- one that is not the last is one of those before
before_last : (scope : Scope) (n b : BoundVariable) → is_bound_in (scope ++ n ∷ []) b ≡ true → ((b ≡ n) → ⊥) → is_bound_in scope b ≡ true
before_last [] n b h apart = either (false ≡ true) (same_bound b n) false h (λ same. absurd (apart (is_variable b n same))) (λ none. none)
before_last (c ∷ cs) n b h apart = by_head (same_bound b c) h (λ later. before_last cs n b later apart) where
  by_head : (t : Bool) → (t || is_bound_in (cs ++ n ∷ []) b) ≡ true → (is_bound_in (cs ++ n ∷ []) b ≡ true → is_bound_in cs b ≡ true) → (t || is_bound_in cs b) ≡ true
  by_head true h later = refl
  by_head false h later = later h

-- either it is the last one, or one of those before
last_or_before : (P : Type 0) (scope : Scope) (n b : BoundVariable) → is_bound_in (scope ++ n ∷ []) b ≡ true → (n ≡ b → P) → (is_bound_in scope b ≡ true → same_name (bound n) (bound b) ≡ false → P) → P
last_or_before P scope n b h f g = by_test (same_name (bound n) (bound b)) refl where
  by_test : (t : Bool) → same_name (bound n) (bound b) ≡ t → P
  by_test true same = f (same_variable n b ((same_name-Decides (bound n) (bound b)).0 same))
  by_test false apart = g (before_last scope n b h (λ e. no ⊥ (sym apart ∙ (same_name-Decides (bound n) (bound b)).1 (ap bound (sym e))))) apart

-- ---- deeper

-- v is w for the variables of a scope, which are k deeper in v
pub record Deeper (scope : Scope) (k : ℕ) (v w : Valuation) : Type 0 where
  pub free : (x : Name) → is_free x.symbol ≡ true → v x ≡ w x
  pub inside : (b : BoundVariable) → is_bound_in scope b ≡ true → v (bound (deeper k b)) ≡ w (bound b)

deeper_variable : (k : ℕ) (b c : BoundVariable) → deeper k b ≡ deeper k c → b ≡ c
deeper_variable k b c e =
    let depths : b.depth ≡ c.depth = omega (arith, ap (λ (b : BoundVariable). b.depth) e) in
    let variables : b.variable ≡ c.variable = ap (λ (b : BoundVariable). b.variable) e in
    λ i. record { depth = depths i; variable = variables i }

deeper_under : (scope : Scope) (k : ℕ) (n : BoundVariable) (v w : Valuation) (z : Value) → Deeper scope k v w → Deeper (scope ++ n ∷ []) k (with_value_at v (bound (deeper k n)) z) (with_value_at w (bound n) z)
deeper_under scope k n v w z d = record {
  free = λ x free. elsewhere v (bound (deeper k n)) x z (not_bound x (deeper k n) free) ∙ d.free x free ∙ sym (elsewhere w (bound n) x z (not_bound x n free));
  inside = λ b h.
      last_or_before (with_value_at v (bound (deeper k n)) z (bound (deeper k b)) ≡ with_value_at w (bound n) z (bound b)) scope n b h
      (λ e. subst (λ (c : BoundVariable). with_value_at v (bound (deeper k n)) z (bound (deeper k c)) ≡ with_value_at w (bound n) z (bound c)) e (here v (bound (deeper k n)) z ∙ sym (here w (bound n) z)))
      (λ before apart.
      elsewhere v (bound (deeper k n)) (bound (deeper k b)) z (other_variable (deeper k n) (deeper k b) (λ e. no ⊥ (sym apart ∙ (same_name-Decides (bound n) (bound b)).1 (ap bound (deeper_variable k n b e)))))
      ∙ d.inside b before
      ∙ sym (elsewhere w (bound n) (bound b) z apart));
}

-- a free name is as deep as before
stays : (k : ℕ) (s : Symbol) (x : Name) → x.symbol ≡ s → is_free s ≡ true → deeper_name k x ≡ x
stays k s x is free =
    let same = by_symbol s free in
    λ i. record { symbol = (ap (deeper_symbol k) is ∙ same ∙ sym is) i; sort = x.sort }
  where
    by_symbol : (s : Symbol) → is_free s ≡ true → deeper_symbol k s ≡ s
    by_symbol (Bound b) h = no _ h
    by_symbol (Now n) h = refl
    by_symbol (Entry n) h = refl
    by_symbol (First n) h = refl
    by_symbol (Last n) h = refl
    by_symbol (New n) h = refl

name_raised : (scope : Scope) (k : ℕ) (v w : Valuation) → Deeper scope k v w → (s : Symbol) (x : Name) → x.symbol ≡ s → name_scoped s x scope ≡ true → v (deeper_name k x) ≡ w x
name_raised scope k v w d (Bound b) x is h =
    let p = and_parts (same_name x (bound b)) (is_bound_in scope b) h in
    let e = (same_name-Decides x (bound b)).0 p.0 in
    ap (λ y. v (deeper_name k y)) e ∙ d.inside b p.1 ∙ ap w (sym e)
name_raised scope k v w d (Now n) x is h = ap v (stays k (Now n) x is refl) ∙ d.free x (ap is_free is)
name_raised scope k v w d (Entry n) x is h = ap v (stays k (Entry n) x is refl) ∙ d.free x (ap is_free is)
name_raised scope k v w d (First n) x is h = ap v (stays k (First n) x is refl) ∙ d.free x (ap is_free is)
name_raised scope k v w d (Last n) x is h = ap v (stays k (Last n) x is refl) ∙ d.free x (ap is_free is)
name_raised scope k v w d (New n) x is h = ap v (stays k (New n) x is refl) ∙ d.free x (ap is_free is)

pub at_scope : (scope : Scope) (f g : Scope → Bool) → f ≡ g → f scope ≡ g scope
at_scope scope f g h = ap (λ (k : Scope → Bool). k scope) h

module _ (types : Types) (k : ℕ) where
  abbrev pub Raised : Term → Type 0
  Raised t = (scope : Scope) → is_scoped scope t ≡ true → (v w : Valuation) → Deeper scope k v w → value_of types v (raised k t) ≡ value_of types w t

  raised_to : (t r : Term) (v w : Valuation) → raised k t ≡ r → value_of types v r ≡ value_of types w t → value_of types v (raised k t) ≡ value_of types w t
  raised_to t r v w is h = ap (value_of types v) is ∙ h

  of_ternary : (o : TernaryOp) (a b c : Term) → Raised a → Raised b → Raised c → Raised (Ternary o a b c)
  unfolding raised is_scoped
  of_ternary (ternary.Update t) a b c p q r j h v w d =
      let scoped = sym (at_scope j _ _ (fold-Ternary scoped_step (ternary.Update t) a b c)) ∙ h in
      let x = and_parts (is_scoped j a) (is_scoped j b && is_scoped j c) scoped in
      let y = and_parts (is_scoped j b) (is_scoped j c) x.1 in
      raised_to (Ternary (ternary.Update t) a b c) (Ternary (ternary.Update t) (raised k a) (raised k b) (raised k c)) v w (fold-Ternary (raised_step k) (ternary.Update t) a b c)
      (alike_update types v w t (raised k a) (raised k b) (raised k c) a b c (p j x.0 v w d) (q j y.0 v w d) (r j y.1 v w d))
  of_ternary (ternary.Quantified q n) a b c p1 p2 p3 j h v w d =
      let scoped = sym (at_scope j _ _ (fold-Ternary scoped_step (ternary.Quantified q n) a b c)) ∙ h in
      let depth = and_parts (n.depth == suc (length j)) (is_scoped j a && (is_scoped j b && is_scoped (j ++ n ∷ []) c)) scoped in
      let x = and_parts (is_scoped j a) (is_scoped j b && is_scoped (j ++ n ∷ []) c) depth.1 in
      let y = and_parts (is_scoped j b) (is_scoped (j ++ n ∷ []) c) x.1 in
      raised_to (Ternary (ternary.Quantified q n) a b c) (Ternary (ternary.Quantified q (deeper k n)) (raised k a) (raised k b) (raised k c)) v w (fold-Ternary (raised_step k) (ternary.Quantified q n) a b c)
      (alike_quantified types v w q (deeper k n) n (raised k a) (raised k b) (raised k c) a b c (p1 j x.0 v w d) (p2 j y.0 v w d)
      (λ z. p3 (j ++ n ∷ []) y.1 (with_value_at v (bound (deeper k n)) (value.Number z)) (with_value_at w (bound n) (value.Number z)) (deeper_under j k n v w (value.Number z) d)))

  raised_cases : Cases Raised
  unfolding raised is_scoped
  raised_cases = record {
    number = λ n j h v w d. raised_to (Number n) (Number n) v w (fold-Number (raised_step k) n) (value-Number types v n ∙ sym (value-Number types w n));
    truth = λ b j h v w d. raised_to (Truth b) (Truth b) v w (fold-Truth (raised_step k) b) (value-Truth types v b ∙ sym (value-Truth types w b));
    variable = λ x j h v w d. raised_to (Variable x) (Variable (deeper_name k x)) v w (fold-Variable (raised_step k) x)
        (value-Variable types v (deeper_name k x) ∙ name_raised j k v w d x.symbol x refl (sym (at_scope j _ _ (fold-Variable scoped_step x)) ∙ h) ∙ sym (value-Variable types w x));
    blank = λ id j h v w d. raised_to (Blank id) (Blank id) v w (fold-Blank (raised_step k) id) (value-Blank types v id ∙ sym (value-Blank types w id));
    prefix = λ o a p j h v w d. raised_to (Prefix o a) (Prefix o (raised k a)) v w (fold-Prefix (raised_step k) o a)
        (alike_prefix types v w o (raised k a) a (p j (sym (at_scope j _ _ (fold-Prefix scoped_step o a)) ∙ h) v w d));
    «infix» = λ o a b p q j h v w d.
        let x = and_parts (is_scoped j a) (is_scoped j b) (sym (at_scope j _ _ (fold-Infix scoped_step o a b)) ∙ h) in
        raised_to (Infix o a b) (Infix o (raised k a) (raised k b)) v w (fold-Infix (raised_step k) o a b) (alike_infix types v w o (raised k a) (raised k b) a b (p j x.0 v w d) (q j x.1 v w d));
    unary = λ o a p j h v w d. raised_to (Unary o a) (Unary o (raised k a)) v w (fold-Unary (raised_step k) o a)
        (alike_unary types v w o (raised k a) a (p j (sym (at_scope j _ _ (fold-Unary scoped_step o a)) ∙ h) v w d));
    binary = λ o a b p q j h v w d.
        let x = and_parts (is_scoped j a) (is_scoped j b) (sym (at_scope j _ _ (fold-Binary scoped_step o a b)) ∙ h) in
        raised_to (Binary o a b) (Binary o (raised k a) (raised k b)) v w (fold-Binary (raised_step k) o a b) (alike_binary types v w o (raised k a) (raised k b) a b (p j x.0 v w d) (q j x.1 v w d));
    ternary = of_ternary;
  }

  pub raised_value : (t : Term) → Raised t
  raised_value = induct Raised raised_cases

-- a term that stands alone has one value, whatever bound variables are, and at each depth
pub alone : (types : Types) (t : Term) → stands_alone t ≡ true → (k : ℕ) (v w : Valuation) → ((x : Name) → is_free x.symbol ≡ true → v x ≡ w x) → value_of types v (raised k t) ≡ value_of types w t
alone types t h k v w free = raised_value types k t [] h v w (record { free = free; inside = λ b none. no _ none })

pub alone_bound : (types : Types) (t : Term) → stands_alone t ≡ true → (v : Valuation) (b : BoundVariable) (z : Value) → value_of types (with_value_at v (bound b) z) t ≡ value_of types v t
alone_bound types t h v b z =
    sym (alone types t h 0 v (with_value_at v (bound b) z) (λ x free. sym (elsewhere v (bound b) x z (not_bound x b free)))) ∙ alone types t h 0 v v (λ x free. refl)

-- ---- a term for the first variable

-- w is v with the value of t for the first variable of a scope, and the others are one deeper in w
pub record Opens (types : Types) (t : Term) (scope : Scope) (v w : Valuation) : Type 0 where
  pub free : (x : Name) → is_free x.symbol ≡ true → v x ≡ w x
  pub some : 0 < length scope
  pub numbered : (b : BoundVariable) → is_bound_in scope b ≡ true → (0 < b.depth) × (b.depth < suc (length scope))
  pub first : (b : BoundVariable) → is_bound_in scope b ≡ true → b.depth ≡ 1 → w (bound b) ≡ value_of types v t
  pub inside : (b : BoundVariable) → is_bound_in scope b ≡ true → ((b.depth ≡ 1) → ⊥) → v (bound (shallower b)) ≡ w (bound b)

opens_under : (types : Types) (t : Term) → stands_alone t ≡ true → (scope : Scope) (n : BoundVariable) (v w : Valuation) (z : Value) → n.depth ≡ suc (length scope) → Opens types t scope v w
    → Opens types t (scope ++ n ∷ []) (with_value_at v (bound (shallower n)) z) (with_value_at w (bound n) z)
opens_under types t alone scope n v w z is d = record {
  free = λ x free. elsewhere v (bound (shallower n)) x z (not_bound x (shallower n) free) ∙ d.free x free ∙ sym (elsewhere w (bound n) x z (not_bound x n free));
  some = let long = length-append scope (n ∷ []) in omega arith;
  numbered = λ b h.
      let long : length (scope ++ n ∷ []) ≡ suc (length scope) = omega (arith, length-append scope (n ∷ [])) in
      last_or_before ((0 < b.depth) × (b.depth < suc (length (scope ++ n ∷ [])))) scope n b h
      (λ e. let depth : n.depth ≡ b.depth = ap (λ (c : BoundVariable). c.depth) e in (omega arith, omega arith))
      (λ before apart. let p = d.numbered b before in (p.0, omega arith));
  first = λ b h one.
      last_or_before (with_value_at w (bound n) z (bound b) ≡ value_of types (with_value_at v (bound (shallower n)) z) t) scope n b h
      (λ e. let depth : n.depth ≡ b.depth = ap (λ (c : BoundVariable). c.depth) e in let long = d.some in absurd (omega arith))
      (λ before apart. elsewhere w (bound n) (bound b) z apart ∙ d.first b before one ∙ sym (alone_bound types t alone v (shallower n) z));
  inside = λ b h far.
      last_or_before (with_value_at v (bound (shallower n)) z (bound (shallower b)) ≡ with_value_at w (bound n) z (bound b)) scope n b h
      (λ e. subst (λ (c : BoundVariable). with_value_at v (bound (shallower n)) z (bound (shallower c)) ≡ with_value_at w (bound n) z (bound c)) e (here v (bound (shallower n)) z ∙ sym (here w (bound n) z)))
      (λ before apart.
      let p = d.numbered b before in
      elsewhere v (bound (shallower n)) (bound (shallower b)) z (other_variable (shallower n) (shallower b) (λ e. let depths : n.depth - 1 ≡ b.depth - 1 = ap (λ (c : BoundVariable). c.depth) e in absurd (omega arith)))
      ∙ d.inside b before far
      ∙ sym (elsewhere w (bound n) (bound b) z apart));
}

module _ (types : Types) (t : Term) (scoped : stands_alone t ≡ true) where
  abbrev Opened : Term → Type 0
  Opened u = (k : ℕ) (scope : Scope) → is_scoped scope u ≡ true → (v w : Valuation) → Opens types t scope v w → value_of types v (opened_under k t u) ≡ value_of types w u

  opened_to : (k : ℕ) (u r : Term) (v w : Valuation) → opened_under k t u ≡ r → value_of types v r ≡ value_of types w u → value_of types v (opened_under k t u) ≡ value_of types w u
  opened_to k u r v w is h = ap (value_of types v) is ∙ h

  at_depth : (k : ℕ) (f g : ℕ → Term) → f ≡ g → f k ≡ g k
  at_depth k f g h = ap (λ (f : ℕ → Term). f k) h

  name_opened : (k : ℕ) (scope : Scope) (v w : Valuation) → Opens types t scope v w → (s : Symbol) (x : Name) → x.symbol ≡ s → name_scoped s x scope ≡ true → value_of types v (opened_name t s x k) ≡ w x
  name_opened k scope v w d (Bound b) x is h = by_depth (b.depth == 1) refl where
    p : (same_name x (bound b) ≡ true) × (is_bound_in scope b ≡ true)
    p = and_parts (same_name x (bound b)) (is_bound_in scope b) h

    e : x ≡ bound b
    e = (same_name-Decides x (bound b)).0 p.0

    by_depth : (test : Bool) → (b.depth == 1) ≡ test → value_of types v (if test then raised k t else Variable (record { symbol = Bound (shallower b); sort = x.sort })) ≡ w x
    by_depth true one = alone types t scoped k v v (λ y free. refl) ∙ sym (d.first b p.1 (eqb-true b.depth 1 one)) ∙ ap w (sym e)
    by_depth false far =
        value-Variable types v (record { symbol = Bound (shallower b); sort = x.sort })
        ∙ ap (λ (y : Name). v (record { symbol = Bound (shallower b); sort = y.sort })) e
        ∙ d.inside b p.1 (λ one. grind (arith, nat_tests)) ∙ ap w (sym e)
  name_opened k scope v w d (Now n) x is h = value-Variable types v x ∙ d.free x (ap is_free is)
  name_opened k scope v w d (Entry n) x is h = value-Variable types v x ∙ d.free x (ap is_free is)
  name_opened k scope v w d (First n) x is h = value-Variable types v x ∙ d.free x (ap is_free is)
  name_opened k scope v w d (Last n) x is h = value-Variable types v x ∙ d.free x (ap is_free is)
  name_opened k scope v w d (New n) x is h = value-Variable types v x ∙ d.free x (ap is_free is)

  ternary_opened : (o : TernaryOp) (a b c : Term) → Opened a → Opened b → Opened c → Opened (Ternary o a b c)
  unfolding is_scoped opened_under
  ternary_opened (ternary.Update id) a b c p q r k j h v w d =
      let all = sym (at_scope j _ _ (fold-Ternary scoped_step (ternary.Update id) a b c)) ∙ h in
      let x = and_parts (is_scoped j a) (is_scoped j b && is_scoped j c) all in
      let y = and_parts (is_scoped j b) (is_scoped j c) x.1 in
      opened_to k (Ternary (ternary.Update id) a b c) (Ternary (ternary.Update id) (opened_under k t a) (opened_under k t b) (opened_under k t c)) v w (at_depth k _ _ (fold-Ternary (opened_step t) (ternary.Update id) a b c))
      (alike_update types v w id (opened_under k t a) (opened_under k t b) (opened_under k t c) a b c (p k j x.0 v w d) (q k j y.0 v w d) (r k j y.1 v w d))
  ternary_opened (ternary.Quantified q n) a b c p1 p2 p3 k j h v w d =
      let all = sym (at_scope j _ _ (fold-Ternary scoped_step (ternary.Quantified q n) a b c)) ∙ h in
      let depth = and_parts (n.depth == suc (length j)) (is_scoped j a && (is_scoped j b && is_scoped (j ++ n ∷ []) c)) all in
      let x = and_parts (is_scoped j a) (is_scoped j b && is_scoped (j ++ n ∷ []) c) depth.1 in
      let y = and_parts (is_scoped j b) (is_scoped (j ++ n ∷ []) c) x.1 in
      let is = eqb-true n.depth (suc (length j)) depth.0 in
      opened_to k (Ternary (ternary.Quantified q n) a b c) (Ternary (ternary.Quantified q (shallower n)) (opened_under k t a) (opened_under k t b) (opened_under (suc k) t c)) v w (at_depth k _ _ (fold-Ternary (opened_step t) (ternary.Quantified q n) a b c))
      (alike_quantified types v w q (shallower n) n (opened_under k t a) (opened_under k t b) (opened_under (suc k) t c) a b c (p1 k j x.0 v w d) (p2 k j y.0 v w d)
      (λ z. p3 (suc k) (j ++ n ∷ []) y.1 (with_value_at v (bound (shallower n)) (value.Number z)) (with_value_at w (bound n) (value.Number z)) (opens_under types t scoped j n v w (value.Number z) is d)))

  opened_cases : Cases Opened
  unfolding is_scoped opened_under
  opened_cases = record {
    number = λ n k j h v w d. opened_to k (Number n) (Number n) v w (at_depth k _ _ (fold-Number (opened_step t) n)) (value-Number types v n ∙ sym (value-Number types w n));
    truth = λ b k j h v w d. opened_to k (Truth b) (Truth b) v w (at_depth k _ _ (fold-Truth (opened_step t) b)) (value-Truth types v b ∙ sym (value-Truth types w b));
    variable = λ x k j h v w d. opened_to k (Variable x) (opened_name t x.symbol x k) v w (at_depth k _ _ (fold-Variable (opened_step t) x))
        (name_opened k j v w d x.symbol x refl (sym (at_scope j _ _ (fold-Variable scoped_step x)) ∙ h) ∙ sym (value-Variable types w x));
    blank = λ id k j h v w d. opened_to k (Blank id) (Blank id) v w (at_depth k _ _ (fold-Blank (opened_step t) id)) (value-Blank types v id ∙ sym (value-Blank types w id));
    prefix = λ o a p k j h v w d. opened_to k (Prefix o a) (Prefix o (opened_under k t a)) v w (at_depth k _ _ (fold-Prefix (opened_step t) o a))
        (alike_prefix types v w o (opened_under k t a) a (p k j (sym (at_scope j _ _ (fold-Prefix scoped_step o a)) ∙ h) v w d));
    «infix» = λ o a b p q k j h v w d.
        let x = and_parts (is_scoped j a) (is_scoped j b) (sym (at_scope j _ _ (fold-Infix scoped_step o a b)) ∙ h) in
        opened_to k (Infix o a b) (Infix o (opened_under k t a) (opened_under k t b)) v w (at_depth k _ _ (fold-Infix (opened_step t) o a b)) (alike_infix types v w o (opened_under k t a) (opened_under k t b) a b (p k j x.0 v w d) (q k j x.1 v w d));
    unary = λ o a p k j h v w d. opened_to k (Unary o a) (Unary o (opened_under k t a)) v w (at_depth k _ _ (fold-Unary (opened_step t) o a))
        (alike_unary types v w o (opened_under k t a) a (p k j (sym (at_scope j _ _ (fold-Unary scoped_step o a)) ∙ h) v w d));
    binary = λ o a b p q k j h v w d.
        let x = and_parts (is_scoped j a) (is_scoped j b) (sym (at_scope j _ _ (fold-Binary scoped_step o a b)) ∙ h) in
        opened_to k (Binary o a b) (Binary o (opened_under k t a) (opened_under k t b)) v w (at_depth k _ _ (fold-Binary (opened_step t) o a b)) (alike_binary types v w o (opened_under k t a) (opened_under k t b) a b (p k j x.0 v w d) (q k j x.1 v w d));
    ternary = ternary_opened;
  }

  -- the body at t means what it means where its variable has the value of t
  pub opened_value : (b : BoundVariable) (body : Term) → b.depth ≡ 1 → is_scoped (b ∷ []) body ≡ true → (v : Valuation) → value_of types v (opened t body) ≡ value_of types (with_value_at v (bound b) (value_of types v t)) body
  opened_value b body one h v =
      induct Opened opened_cases body 0 (b ∷ []) h v (with_value_at v (bound b) (value_of types v t))
      (record {
        free = λ x free. sym (elsewhere v (bound b) x (value_of types v t) (not_bound x b free));
        some = omega arith;
        numbered = λ c h. let depth = ap (λ (d : BoundVariable). d.depth) (only c h) in (omega arith, omega arith);
        first = λ c h depth. ap (λ (d : BoundVariable). with_value_at v (bound b) (value_of types v t) (bound d)) (only c h) ∙ here v (bound b) (value_of types v t);
        inside = λ c h far. absurd (far (ap (λ (d : BoundVariable). d.depth) (only c h) ∙ one));
      })
    where
      only : (c : BoundVariable) → is_bound_in (b ∷ []) c ≡ true → c ≡ b
      only c h = either (c ≡ b) (same_bound c b) false h (λ same. is_variable c b same) (λ none. no _ none)

-- ---- new names

pub swapped : (v : Valuation) (x y : Name) (z u : Value) → same_name x y ≡ false → with_value_at (with_value_at v x z) y u ≡ with_value_at (with_value_at v y u) x z
swapped v x y z u apart = λ i name. at_name name (same_name x name) (same_name y name) refl refl i where
  at_name : (name : Name) (a b : Bool) → same_name x name ≡ a → same_name y name ≡ b → with_value_at (with_value_at v x z) y u name ≡ with_value_at (with_value_at v y u) x z name
  at_name name true true p q =
      no _ (sym apart ∙ ap (same_name x) ((same_name-Decides y name).0 q) ∙ p)
  at_name name true false p q = elsewhere (with_value_at v x z) y name u q ∙ at_test (same_name x name) z (v name) z p ∙ sym (at_test (same_name x name) z (with_value_at v y u name) z p)
  at_name name false true p q = at_test (same_name y name) u (with_value_at v x z name) u q ∙ sym (elsewhere (with_value_at v y u) x name z p ∙ at_test (same_name y name) u (v name) u q)
  at_name name false false p q = elsewhere (with_value_at v x z) y name u q ∙ elsewhere v x name z p ∙ sym (elsewhere (with_value_at v y u) x name z p ∙ elsewhere v y name u q)

module _ (types : Types) (k : ℕ) (w : BoundVariable) (z : Value) where
  abbrev pub Unchanged : Term → Type 0
  Unchanged t = greatest t < k → (v : Valuation) → value_of types (with_value_at v (new k w) z) t ≡ value_of types v t

  other_name : (x : Name) → number_after x.symbol < k → same_name (new k w) x ≡ false
  other_name x h = differ (new k w) x (λ e. let f : k ≡ number_after x.symbol = ap (λ (name : Name). number_after name.symbol) e in absurd (omega arith))

  unchanged_ternary : (o : TernaryOp) (a b c : Term) → Unchanged a → Unchanged b → Unchanged c → Unchanged (Ternary o a b c)
  unfolding greatest
  unchanged_ternary o a b c p q r h v =
      let most : greatest (Ternary o a b c) ≡ max (greatest a) (max (greatest b) (greatest c)) = fold-Ternary greatest_step o a b c in
      by_op o (p (omega arith) v) (q (omega arith) v) (r (omega arith)) where
        by_op : (o : TernaryOp) → value_of types (with_value_at v (new k w) z) a ≡ value_of types v a → value_of types (with_value_at v (new k w) z) b ≡ value_of types v b
            → ((v : Valuation) → value_of types (with_value_at v (new k w) z) c ≡ value_of types v c) → value_of types (with_value_at v (new k w) z) (Ternary o a b c) ≡ value_of types v (Ternary o a b c)
        by_op (ternary.Update id) p q r = alike_update types (with_value_at v (new k w) z) v id a b c a b c p q (r v)
        by_op (ternary.Quantified f d) p q r =
            alike_quantified types (with_value_at v (new k w) z) v f d d a b c a b c p q
            (λ n. ap (λ (u : Valuation). value_of types u c) (swapped v (new k w) (bound d) z (value.Number n) (differ (new k w) (bound d) (λ e. no ⊥ (sym (ap (λ (name : Name). is_free name.symbol) e))))) ∙ r (with_value_at v (bound d) (value.Number n)))

  unchanged_cases : Cases Unchanged
  unfolding greatest
  unchanged_cases = record {
    number = λ n h v. value-Number types (with_value_at v (new k w) z) n ∙ sym (value-Number types v n);
    truth = λ b h v. value-Truth types (with_value_at v (new k w) z) b ∙ sym (value-Truth types v b);
    variable = λ x h v. value-Variable types (with_value_at v (new k w) z) x ∙ elsewhere v (new k w) x z (other_name x (subst (λ n. n < k) (fold-Variable greatest_step x) h)) ∙ sym (value-Variable types v x);
    blank = λ id h v. value-Blank types (with_value_at v (new k w) z) id ∙ sym (value-Blank types v id);
    prefix = λ o a p h v. alike_prefix types (with_value_at v (new k w) z) v o a a (p (subst (λ n. n < k) (fold-Prefix greatest_step o a) h) v);
    «infix» = λ o a b p q h v.
        let most : greatest (Infix o a b) ≡ max (greatest a) (greatest b) = fold-Infix greatest_step o a b in
        alike_infix types (with_value_at v (new k w) z) v o a b a b (p (omega arith) v) (q (omega arith) v);
    unary = λ o a p h v. alike_unary types (with_value_at v (new k w) z) v o a a (p (subst (λ n. n < k) (fold-Unary greatest_step o a) h) v);
    binary = λ o a b p q h v.
        let most : greatest (Binary o a b) ≡ max (greatest a) (greatest b) = fold-Binary greatest_step o a b in
        alike_binary types (with_value_at v (new k w) z) v o a b a b (p (omega arith) v) (q (omega arith) v);
    ternary = unchanged_ternary;
  }

  -- a term has the value that it has at another value of a name that it does not have
  pub unchanged : (t : Term) → Unchanged t
  unchanged = induct Unchanged unchanged_cases

-- a variable of the program stands alone
pub alone_variable : (x : Name) → is_free x.symbol ≡ true → stands_alone (Variable x) ≡ true
unfolding is_scoped
alone_variable x free = at_scope [] _ _ (fold-Variable scoped_step x) ∙ by_symbol x.symbol free where
  by_symbol : (s : Symbol) → is_free s ≡ true → name_scoped s x [] ≡ true
  by_symbol (Bound n) h = no _ h
  by_symbol _ h = refl
