-- Substitution under quantifiers.
use Rattle.std.proofs.Common.{◌≡◌, ℕ, ◌+◌, ℤ, Bool, true, false, not, ◌&&◌, ◌||◌, Some, refl, sym, ap, ap₂, ◌∙◌, if◌then◌else◌, arith}
use Rattle.std.proofs.lemmas.Bool.Decides.{same_from_decides}
use Rattle.std.proofs.lemmas.Bool.{both_ways}
use Rattle.spx_term.specs.declared.term.Name.{Name}
use Rattle.spx_term.specs.declared.term.BoundVariable.{BoundVariable}
use Rattle.spx_term.specs.declared.term.Symbol.{Symbol}
use Rattle.spx_term.specs.declared.term.Symbol.TheVariants.{Now, Entry, First, Last, New, Bound}
use Rattle.spx_term.specs.declared.term.TermOp.{TermOp}
use Rattle.spx_term.specs.declared.term.TermPrefix.{TermPrefix}
use Rattle.spx_term.specs.declared.term.UnaryOp.{UnaryOp}
use Rattle.spx_term.specs.declared.term.BinaryOp.{BinaryOp}
use Rattle.spx_term.specs.declared.term.Quantifier.{Quantifier}
use Rattle.spx_term.specs.declared.term.TernaryOp.{TernaryOp}
use Rattle.spx_term.specs.declared.term.TernaryOp.TheVariants as ternary
use Rattle.spx_term.specs.declared.term.Term.{Term}
use Rattle.spx_term.specs.declared.term.Term.TheVariants.{Number, Truth, Variable, Blank, Prefix, Infix, Unary, Binary, Ternary}
use Rattle.spx_term.specs.declared.value.Value.{Value}
use Rattle.spx_term.specs.declared.value.Value.TheVariants as value
use Rattle.spx_term.specs.Equality.{same_name}
use Rattle.spx_term.specs.Values.{Types}
use Rattle.spx_term.specs.Sorts.{one, both, three, sort_of_prefix, sort_of_op, sort_of_unary, sort_of_binary, sort_of_ternary, sort_step, sort_of}
use Rattle.spx_term.specs.Meaning.{as_number, as_truth, value_of_prefix, value_of_op, value_of_unary, value_of_binary, value_of_ternary, quantified, Valuation, bound, with_value_at, value_of}
use Rattle.spx_term.specs.Steps.{substituted_step, substituted}
use Rattle.spx_term.specs.Substitution.{is_free, binds, reads_step, reads, IsClosed, deeper, deeper_symbol, deeper_name, deeper_op, raised_step, raised, levels, put_step, put_under, PutIsMeant, SubstitutionIsMeant, SubstitutionKeepsSorts}
use Rattle.spx_term.proofs.Equality.{same_name-Decides}
use Rattle.spx_term.proofs.Terms.{Cases, induct, fold-Number, fold-Truth, fold-Variable, fold-Blank, fold-Prefix, fold-Infix, fold-Unary, fold-Binary, fold-Ternary, value-Number, value-Truth, value-Variable, value-Blank, value-Prefix, value-Infix, value-Unary, value-Binary, value-Ternary}
use Rattle.spx_term.proofs.FoldingLaws.{quantified_same}

-- valuations that agree on all names are equal
same_valuation : (v w : Valuation) → ((name : Name) → v name ≡ w name) → v ≡ w
same_valuation v w h = λ i name. h name i

-- a free symbol is not that of a bound variable
apart : (x : Name) (d : BoundVariable) → is_free x.symbol ≡ true → same_name (bound d) x ≡ false
apart x d free = by_test (same_name (bound d) x) refl where
  by_test : (b : Bool) → same_name (bound d) x ≡ b → b ≡ false
  by_test true h = let e : bound d ≡ x = (same_name-Decides (bound d) x).0 h in absurd (both_ways (is_free x.symbol) (ap (λ (name : Name). is_free name.symbol) (sym e)) free)
  by_test false h = refl

-- ---- a term has one value under valuations that agree on what it reads

abbrev with_bound : Valuation → BoundVariable → ℤ → Valuation
with_bound v d n = with_value_at v (bound d) (value.Number n)

same_ternary : (types : Types) (o : TernaryOp) (a b c : Term) (v w : Valuation) → value_of types v a ≡ value_of types w a → value_of types v b ≡ value_of types w b → value_of types v c ≡ value_of types w c
    → ((d : BoundVariable) (n : ℤ) → value_of types (with_value_at v (bound d) (value.Number n)) c ≡ value_of types (with_value_at w (bound d) (value.Number n)) c)
    → value_of types v (Ternary o a b c) ≡ value_of types w (Ternary o a b c)
same_ternary types (ternary.Update t) a b c v w p q r under =
    value-Ternary types v (ternary.Update t) a b c
    ∙ (λ i. value_of_ternary (ternary.Update t) (λ z. p i) (λ z. q i) (λ z. r i) v)
    ∙ sym (value-Ternary types w (ternary.Update t) a b c)
same_ternary types (ternary.Quantified k d) a b c v w p q r under =
    value-Ternary types v (ternary.Quantified k d) a b c
    ∙ ap value.Truth (ap₂ (λ (m n : Value). quantified k (as_number m) (as_number n) (λ n. as_truth (value_of types (with_value_at v (bound d) (value.Number n)) c))) p q
    ∙ quantified_same k (as_number (value_of types w a)) (as_number (value_of types w b)) (λ n. as_truth (value_of types (with_value_at v (bound d) (value.Number n)) c)) (λ n. as_truth (value_of types (with_value_at w (bound d) (value.Number n)) c)) (λ n. ap as_truth (under d n)))
    ∙ sym (value-Ternary types w (ternary.Quantified k d) a b c)

-- two valuations agree on the names that a term reads
abbrev AgreeOn : Term → Valuation → Valuation → Type 0
AgreeOn t v w = (y : Name) → reads t y ≡ true → v y ≡ w y

abbrev Agrees : Types → Term → Type 0
Agrees types t = (v w : Valuation) → AgreeOn t v w → value_of types v t ≡ value_of types w t

or_first : (a b : Bool) → a ≡ true → (a || b) ≡ true
or_first true b h = refl
or_first false b h = absurd (cc)

or_second : (a b : Bool) → b ≡ true → (a || b) ≡ true
or_second true b h = refl
or_second false b h = h

inside : (types : Types) (o : TernaryOp) (a b c : Term) (v w : Valuation) → Agrees types c → AgreeOn (Ternary o a b c) v w → (q : Quantifier) (d : BoundVariable) → o ≡ ternary.Quantified q d → (n : ℤ) →
    value_of types (with_bound v d n) c ≡ value_of types (with_bound w d n) c
unfolding reads
inside types o a b c v w r agree q d is n =
    r (with_bound v d n) (with_bound w d n) (λ y here. by_name y (same_name (bound d) y) refl here)
  where
    by_name : (y : Name) (b : Bool) → same_name (bound d) y ≡ b → reads c y ≡ true → (if b then value.Number n else v y) ≡ (if b then value.Number n else w y)
    by_name y true same here = refl
    by_name y false same here =
        let bare : not (binds o y) ≡ true = ap (λ p. not (binds p y)) is ∙ ap not same in
        let both : (not (binds o y) && reads c y) ≡ true = ap₂ ◌&&◌ bare here in
        agree y (ap (λ (f : Name → Bool). f y) (fold-Ternary reads_step o a b c) ∙ or_second (reads a y) _ (or_second (reads b y) _ both))

ternary_agrees : (types : Types) (o : TernaryOp) (a b c : Term) → Agrees types a → Agrees types b → Agrees types c → Agrees types (Ternary o a b c)
unfolding reads
ternary_agrees types (ternary.Update id) a b c p q r v w agree =
    let o = ternary.Update id in
    let at = λ (y : Name). ap (λ (f : Name → Bool). f y) (fold-Ternary reads_step o a b c) in
    value-Ternary types v o a b c
    ∙ (λ i. value_of_ternary o (λ z. p v w (λ y h. agree y (at y ∙ or_first (reads a y) _ h)) i) (λ z. q v w (λ y h. agree y (at y ∙ or_second (reads a y) _ (or_first (reads b y) _ h))) i)
    (λ z. r v w (λ y h. agree y (at y ∙ or_second (reads a y) _ (or_second (reads b y) _ h))) i) v)
    ∙ sym (value-Ternary types w o a b c)
ternary_agrees types (ternary.Quantified k d) a b c p q r v w agree =
    let o = ternary.Quantified k d in
    let at = λ (y : Name). ap (λ (f : Name → Bool). f y) (fold-Ternary reads_step o a b c) in
    let low = p v w (λ y h. agree y (at y ∙ or_first (reads a y) _ h)) in
    let high = q v w (λ y h. agree y (at y ∙ or_second (reads a y) _ (or_first (reads b y) _ h))) in
    value-Ternary types v o a b c
    ∙ ap value.Truth (ap₂ (λ (m n : Value). quantified k (as_number m) (as_number n) (λ n. as_truth (value_of types (with_bound v d n) c))) low high
    ∙ quantified_same k (as_number (value_of types w a)) (as_number (value_of types w b)) (λ n. as_truth (value_of types (with_bound v d n) c)) (λ n. as_truth (value_of types (with_bound w d n) c))
    (λ n. ap as_truth (inside types o a b c v w r agree k d refl n)))
    ∙ sym (value-Ternary types w o a b c)

agrees_cases : (types : Types) → Cases (Agrees types)
unfolding reads
agrees_cases types = record {
  number = λ n v w agree. value-Number types v n ∙ sym (value-Number types w n);
  truth = λ b v w agree. value-Truth types v b ∙ sym (value-Truth types w b);
  variable = λ x v w agree.
      value-Variable types v x ∙ agree x (ap (λ (f : Name → Bool). f x) (fold-Variable reads_step x) ∙ (same_name-Decides x x).1 refl) ∙ sym (value-Variable types w x);
  blank = λ id v w agree. value-Blank types v id ∙ sym (value-Blank types w id);
  prefix = λ o a p v w agree.
      value-Prefix types v o a ∙ ap (value_of_prefix o) (p v w (λ y h. agree y (ap (λ (f : Name → Bool). f y) (fold-Prefix reads_step o a) ∙ h))) ∙ sym (value-Prefix types w o a);
  «infix» = λ o a b p q v w agree.
      let at = λ (y : Name). ap (λ (f : Name → Bool). f y) (fold-Infix reads_step o a b) in
      value-Infix types v o a b
      ∙ ap₂ (value_of_op o) (p v w (λ y h. agree y (at y ∙ or_first (reads a y) _ h))) (q v w (λ y h. agree y (at y ∙ or_second (reads a y) _ h)))
      ∙ sym (value-Infix types w o a b);
  unary = λ o a p v w agree.
      value-Unary types v o a ∙ ap (value_of_unary types o) (p v w (λ y h. agree y (ap (λ (f : Name → Bool). f y) (fold-Unary reads_step o a) ∙ h))) ∙ sym (value-Unary types w o a);
  binary = λ o a b p q v w agree.
      let at = λ (y : Name). ap (λ (f : Name → Bool). f y) (fold-Binary reads_step o a b) in
      value-Binary types v o a b
      ∙ ap₂ (value_of_binary types o) (p v w (λ y h. agree y (at y ∙ or_first (reads a y) _ h))) (q v w (λ y h. agree y (at y ∙ or_second (reads a y) _ h)))
      ∙ sym (value-Binary types w o a b);
  ternary = λ o a b c p q r. ternary_agrees types o a b c p q r;
}

agrees : (types : Types) (t : Term) → Agrees types t
agrees types = induct (Agrees types) (agrees_cases types)

-- a closed term has one value, whatever the variables of quantifiers are
steady : (types : Types) (t : Term) → IsClosed t → (v : Valuation) (d : BoundVariable) (n : ℤ) → value_of types (with_bound v d n) t ≡ value_of types v t
steady types t closed v d n = agrees types t (with_bound v d n) v (λ y here. ap (λ b. if b then value.Number n else v y) (apart y d (closed y here)))

-- ---- the value of a term in the place of a name

swap : (a b : Bool) (p q r : Value) → (a ≡ true → b ≡ false) → (if a then p else (if b then q else r)) ≡ (if b then q else (if a then p else r))
swap true b p q r h = ap (λ b. if b then q else p) (sym (h refl))
swap false b p q r h = refl

commute : (v : Valuation) (x : Name) (w : Value) (d : BoundVariable) (n : ℤ) → is_free x.symbol ≡ true → with_value_at (with_bound v d n) x w ≡ with_value_at (with_value_at v x w) (bound d) (value.Number n)
commute v x w d n free = same_valuation (with_value_at (with_value_at v (bound d) (value.Number n)) x w) (with_value_at (with_value_at v x w) (bound d) (value.Number n))
    (λ name. swap (same_name x name) (same_name (bound d) name) w (value.Number n) (v name)
    (λ same. ap (same_name (bound d)) (sym ((same_name-Decides x name).0 same)) ∙ apart x d free))

module _ (types : Types) (x : Name) (t : Term) (free : is_free x.symbol ≡ true) (closed : IsClosed t) where
  abbrev here : Valuation → Valuation
  here v = with_value_at v x (value_of types v t)

  abbrev Meant : Term → Type 0
  Meant u = (v : Valuation) → value_of types v (substituted x t u) ≡ value_of types (here v) u

  -- under a quantifier
  under : (c : Term) → Meant c → (v : Valuation) (d : BoundVariable) (n : ℤ) → value_of types (with_value_at v (bound d) (value.Number n)) (substituted x t c) ≡ value_of types (with_value_at (here v) (bound d) (value.Number n)) c
  under c p v d n =
      p (with_value_at v (bound d) (value.Number n))
      ∙ ap (λ w. value_of types (with_value_at (with_value_at v (bound d) (value.Number n)) x w) c) (steady types t closed v d n)
      ∙ ap (λ (v : Valuation). value_of types v c) (commute v x (value_of types v t) d n free)

  ternary_meant : (o : TernaryOp) (a b c : Term) → Meant a → Meant b → Meant c → Meant (Ternary o a b c)
  ternary_meant (ternary.Update k) a b c p q r v =
      ap (value_of types v) (fold-Ternary (substituted_step x t) (ternary.Update k) a b c)
      ∙ value-Ternary types v (ternary.Update k) (substituted x t a) (substituted x t b) (substituted x t c)
      ∙ (λ i. value_of_ternary (ternary.Update k) (λ z. p v i) (λ z. q v i) (λ z. r v i) v)
      ∙ sym (value-Ternary types (here v) (ternary.Update k) a b c)
  ternary_meant (ternary.Quantified k d) a b c p q r v =
      ap (value_of types v) (fold-Ternary (substituted_step x t) (ternary.Quantified k d) a b c)
      ∙ value-Ternary types v (ternary.Quantified k d) (substituted x t a) (substituted x t b) (substituted x t c)
      ∙ ap value.Truth (ap₂ (λ (m n : Value). quantified k (as_number m) (as_number n) (λ n. as_truth (value_of types (with_value_at v (bound d) (value.Number n)) (substituted x t c)))) (p v) (q v)
      ∙ quantified_same k (as_number (value_of types (here v) a)) (as_number (value_of types (here v) b)) (λ n. as_truth (value_of types (with_value_at v (bound d) (value.Number n)) (substituted x t c))) (λ n. as_truth (value_of types (with_value_at (here v) (bound d) (value.Number n)) c)) (λ n. ap as_truth (under c r v d n)))
      ∙ sym (value-Ternary types (here v) (ternary.Quantified k d) a b c)

  at_name : (v : Valuation) (y : Name) (b : Bool) → same_name x y ≡ b → value_of types v (if b then t else Variable y) ≡ (if b then value_of types v t else v y)
  at_name v y true h = refl
  at_name v y false h = value-Variable types v y

  meant_cases : Cases Meant
  meant_cases = record {
    number = λ n v. ap (value_of types v) (fold-Number (substituted_step x t) n) ∙ value-Number types v n ∙ sym (value-Number types (here v) n);
    truth = λ b v. ap (value_of types v) (fold-Truth (substituted_step x t) b) ∙ value-Truth types v b ∙ sym (value-Truth types (here v) b);
    variable = λ name v. ap (value_of types v) (fold-Variable (substituted_step x t) name) ∙ at_name v name (same_name x name) refl ∙ sym (value-Variable types (here v) name);
    blank = λ id v. ap (value_of types v) (fold-Blank (substituted_step x t) id) ∙ value-Blank types v id ∙ sym (value-Blank types (here v) id);
    prefix = λ o a p v. ap (value_of types v) (fold-Prefix (substituted_step x t) o a) ∙ value-Prefix types v o (substituted x t a) ∙ ap (value_of_prefix o) (p v) ∙ sym (value-Prefix types (here v) o a);
    «infix» = λ o a b p q v. ap (value_of types v) (fold-Infix (substituted_step x t) o a b) ∙ value-Infix types v o (substituted x t a) (substituted x t b) ∙ ap₂ (value_of_op o) (p v) (q v) ∙ sym (value-Infix types (here v) o a b);
    unary = λ o a p v. ap (value_of types v) (fold-Unary (substituted_step x t) o a) ∙ value-Unary types v o (substituted x t a) ∙ ap (value_of_unary types o) (p v) ∙ sym (value-Unary types (here v) o a);
    binary = λ o a b p q v. ap (value_of types v) (fold-Binary (substituted_step x t) o a b) ∙ value-Binary types v o (substituted x t a) (substituted x t b) ∙ ap₂ (value_of_binary types o) (p v) (q v) ∙ sym (value-Binary types (here v) o a b);
    ternary = λ o a b c p q r v. ternary_meant o a b c p q r v;
  }

pub substitution_is_meant : SubstitutionIsMeant
substitution_is_meant types x t u free closed v = induct (Meant types x t free closed) (meant_cases types x t free closed) u v

-- ---- deeper quantifiers

deeper_injective : (k : ℕ) (x y : Name) → deeper_name k x ≡ deeper_name k y → x ≡ y
deeper_injective k x y h =
    let symbols = by_symbol x.symbol y.symbol (ap (λ (n : Name). n.symbol) h) in
    let sorts = ap (λ (n : Name). n.sort) h in
    λ i. record { symbol = symbols i; sort = sorts i }
  where
    by_symbol : (a b : Symbol) → deeper_symbol k a ≡ deeper_symbol k b → a ≡ b
    by_symbol (Now m) (Now n) e = e
    by_symbol (Now m) (Entry n) e = absurd (cc)
    by_symbol (Now m) (First n) e = absurd (cc)
    by_symbol (Now m) (Last n) e = absurd (cc)
    by_symbol (Now m) (New n) e = absurd (cc)
    by_symbol (Now m) (Bound n) e = absurd (cc)
    by_symbol (Entry m) (Now n) e = absurd (cc)
    by_symbol (Entry m) (Entry n) e = e
    by_symbol (Entry m) (First n) e = absurd (cc)
    by_symbol (Entry m) (Last n) e = absurd (cc)
    by_symbol (Entry m) (New n) e = absurd (cc)
    by_symbol (Entry m) (Bound n) e = absurd (cc)
    by_symbol (First m) (Now n) e = absurd (cc)
    by_symbol (First m) (Entry n) e = absurd (cc)
    by_symbol (First m) (First n) e = e
    by_symbol (First m) (Last n) e = absurd (cc)
    by_symbol (First m) (New n) e = absurd (cc)
    by_symbol (First m) (Bound n) e = absurd (cc)
    by_symbol (Last m) (Now n) e = absurd (cc)
    by_symbol (Last m) (Entry n) e = absurd (cc)
    by_symbol (Last m) (First n) e = absurd (cc)
    by_symbol (Last m) (Last n) e = e
    by_symbol (Last m) (New n) e = absurd (cc)
    by_symbol (Last m) (Bound n) e = absurd (cc)
    by_symbol (New m) (Now n) e = absurd (cc)
    by_symbol (New m) (Entry n) e = absurd (cc)
    by_symbol (New m) (First n) e = absurd (cc)
    by_symbol (New m) (Last n) e = absurd (cc)
    by_symbol (New m) (New n) e = e
    by_symbol (New m) (Bound n) e = absurd (cc)
    by_symbol (Bound m) (Now n) e = absurd (cc)
    by_symbol (Bound m) (Entry n) e = absurd (cc)
    by_symbol (Bound m) (First n) e = absurd (cc)
    by_symbol (Bound m) (Last n) e = absurd (cc)
    by_symbol (Bound m) (New n) e = absurd (cc)
    by_symbol (Bound m) (Bound n) e =
        let same : deeper k m ≡ deeper k n = cc in
        let depths : m.depth ≡ n.depth = omega (arith, ap (λ (b : BoundVariable). b.depth) same) in
        let variables : m.variable ≡ n.variable = ap (λ (b : BoundVariable). b.variable) same in
        λ i. Bound (record { depth = depths i; variable = variables i })

same_deeper : (k : ℕ) (x y : Name) → same_name (deeper_name k x) (deeper_name k y) ≡ same_name x y
same_deeper k x y = same_from_decides _ _ (same_name-Decides (deeper_name k x) (deeper_name k y)) (
  λ h. ap (deeper_name k) ((same_name-Decides x y).0 h),
  λ e. (same_name-Decides x y).1 (deeper_injective k x y e),
)

-- each name has the value that it has so many levels deeper
abbrev below : ℕ → Valuation → Valuation
below k v name = v (deeper_name k name)

below_bound : (k : ℕ) (v : Valuation) (d : BoundVariable) (n : ℤ) → below k (with_bound v (deeper k d) n) ≡ with_bound (below k v) d n
below_bound k v d n =
    same_valuation (below k (with_bound v (deeper k d) n)) (with_bound (below k v) d n) (λ name. ap (λ b. if b then value.Number n else v (deeper_name k name)) (same_deeper k (bound d) name))

abbrev IsRaised : Types → ℕ → Term → Type 0
IsRaised types k t = (v : Valuation) → value_of types v (raised k t) ≡ value_of types (below k v) t

module _ (types : Types) (k : ℕ) where
  ternary_raised : (o : TernaryOp) (a b c : Term) → IsRaised types k a → IsRaised types k b → IsRaised types k c → IsRaised types k (Ternary o a b c)
  unfolding raised
  ternary_raised (ternary.Update id) a b c p q r v =
      let o = ternary.Update id in
      ap (value_of types v) (fold-Ternary (raised_step k) o a b c)
      ∙ value-Ternary types v o (raised k a) (raised k b) (raised k c)
      ∙ (λ i. value_of_ternary o (λ z. p v i) (λ z. q v i) (λ z. r v i) v)
      ∙ sym (value-Ternary types (below k v) o a b c)
  ternary_raised (ternary.Quantified s d) a b c p q r v =
      let o = ternary.Quantified s d in
      ap (value_of types v) (fold-Ternary (raised_step k) o a b c)
      ∙ value-Ternary types v (ternary.Quantified s (deeper k d)) (raised k a) (raised k b) (raised k c)
      ∙ ap value.Truth (ap₂ (λ (m n : Value). quantified s (as_number m) (as_number n) (λ n. as_truth (value_of types (with_bound v (deeper k d) n) (raised k c)))) (p v) (q v)
      ∙ quantified_same s (as_number (value_of types (below k v) a)) (as_number (value_of types (below k v) b)) (λ n. as_truth (value_of types (with_bound v (deeper k d) n) (raised k c))) (λ n. as_truth (value_of types (with_bound (below k v) d n) c))
      (λ n. ap as_truth (r (with_bound v (deeper k d) n) ∙ ap (λ (u : Valuation). value_of types u c) (below_bound k v d n))))
      ∙ sym (value-Ternary types (below k v) o a b c)

  raised_cases : Cases (IsRaised types k)
  unfolding raised
  raised_cases = record {
    number = λ n v. ap (value_of types v) (fold-Number (raised_step k) n) ∙ value-Number types v n ∙ sym (value-Number types (below k v) n);
    truth = λ b v. ap (value_of types v) (fold-Truth (raised_step k) b) ∙ value-Truth types v b ∙ sym (value-Truth types (below k v) b);
    variable = λ name v. ap (value_of types v) (fold-Variable (raised_step k) name) ∙ value-Variable types v (deeper_name k name) ∙ sym (value-Variable types (below k v) name);
    blank = λ id v. ap (value_of types v) (fold-Blank (raised_step k) id) ∙ value-Blank types v id ∙ sym (value-Blank types (below k v) id);
    prefix = λ o a p v. ap (value_of types v) (fold-Prefix (raised_step k) o a) ∙ value-Prefix types v o (raised k a) ∙ ap (value_of_prefix o) (p v) ∙ sym (value-Prefix types (below k v) o a);
    «infix» = λ o a b p q v. ap (value_of types v) (fold-Infix (raised_step k) o a b) ∙ value-Infix types v o (raised k a) (raised k b) ∙ ap₂ (value_of_op o) (p v) (q v) ∙ sym (value-Infix types (below k v) o a b);
    unary = λ o a p v. ap (value_of types v) (fold-Unary (raised_step k) o a) ∙ value-Unary types v o (raised k a) ∙ ap (value_of_unary types o) (p v) ∙ sym (value-Unary types (below k v) o a);
    binary = λ o a b p q v. ap (value_of types v) (fold-Binary (raised_step k) o a b) ∙ value-Binary types v o (raised k a) (raised k b) ∙ ap₂ (value_of_binary types o) (p v) (q v) ∙ sym (value-Binary types (below k v) o a b);
    ternary = λ o a b c p q r. ternary_raised o a b c p q r;
  }

free_stays : (k : ℕ) (y : Name) → is_free y.symbol ≡ true → deeper_name k y ≡ y
free_stays k y free = by_symbol y.symbol free
  where
    by_symbol : (s : Symbol) → is_free s ≡ true → deeper_name k (record { symbol = s; sort = y.sort }) ≡ record { symbol = s; sort = y.sort }
    by_symbol (Now n) h = refl
    by_symbol (Entry n) h = refl
    by_symbol (First n) h = refl
    by_symbol (Last n) h = refl
    by_symbol (New n) h = refl
    by_symbol (Bound b) h = absurd (cc)

-- a closed term has the same value under more quantifiers
closed_raised : (types : Types) (k : ℕ) (t : Term) → IsClosed t → (v : Valuation) → value_of types v (raised k t) ≡ value_of types v t
closed_raised types k t closed v =
    induct (IsRaised types k) (raised_cases types k) t v ∙ agrees types t (below k v) v (λ y here. ap v (free_stays k y (closed y here)))

-- ---- a term in the place of a name, with its quantifiers deeper

module _ (x : Name) (t : Term) where
  pub put-Number : (n : ℤ) (k : ℕ) → put_under k x t (Number n) ≡ Number n
  unfolding put_under
  put-Number n k = ap (λ (f : ℕ → Term). f k) (fold-Number (put_step x t) n)

  pub put-Truth : (b : Bool) (k : ℕ) → put_under k x t (Truth b) ≡ Truth b
  unfolding put_under
  put-Truth b k = ap (λ (f : ℕ → Term). f k) (fold-Truth (put_step x t) b)

  pub put-Variable : (y : Name) (k : ℕ) → put_under k x t (Variable y) ≡ (if same_name x y then raised k t else Variable y)
  unfolding put_under
  put-Variable y k = ap (λ (f : ℕ → Term). f k) (fold-Variable (put_step x t) y)

  pub put-Blank : (id k : ℕ) → put_under k x t (Blank id) ≡ Blank id
  unfolding put_under
  put-Blank id k = ap (λ (f : ℕ → Term). f k) (fold-Blank (put_step x t) id)

  pub put-Prefix : (o : TermPrefix) (a : Term) (k : ℕ) → put_under k x t (Prefix o a) ≡ Prefix o (put_under k x t a)
  unfolding put_under
  put-Prefix o a k = ap (λ (f : ℕ → Term). f k) (fold-Prefix (put_step x t) o a)

  pub put-Infix : (o : TermOp) (a b : Term) (k : ℕ) → put_under k x t (Infix o a b) ≡ Infix o (put_under k x t a) (put_under k x t b)
  unfolding put_under
  put-Infix o a b k = ap (λ (f : ℕ → Term). f k) (fold-Infix (put_step x t) o a b)

  pub put-Unary : (o : UnaryOp) (a : Term) (k : ℕ) → put_under k x t (Unary o a) ≡ Unary o (put_under k x t a)
  unfolding put_under
  put-Unary o a k = ap (λ (f : ℕ → Term). f k) (fold-Unary (put_step x t) o a)

  pub put-Binary : (o : BinaryOp) (a b : Term) (k : ℕ) → put_under k x t (Binary o a b) ≡ Binary o (put_under k x t a) (put_under k x t b)
  unfolding put_under
  put-Binary o a b k = ap (λ (f : ℕ → Term). f k) (fold-Binary (put_step x t) o a b)

  pub put-Ternary : (o : TernaryOp) (a b c : Term) (k : ℕ) → put_under k x t (Ternary o a b c) ≡ Ternary o (put_under k x t a) (put_under k x t b) (put_under (k + levels o) x t c)
  unfolding put_under
  put-Ternary o a b c k = ap (λ (f : ℕ → Term). f k) (fold-Ternary (put_step x t) o a b c)

pub ruleset put_forms = (put-Number, put-Truth, put-Variable, put-Blank, put-Prefix, put-Infix, put-Unary, put-Binary, put-Ternary)

module _ (k : ℕ) where
  pub raised-Number : (n : ℤ) → raised k (Number n) ≡ Number n
  unfolding raised
  raised-Number n = fold-Number (raised_step k) n

  pub raised-Truth : (b : Bool) → raised k (Truth b) ≡ Truth b
  unfolding raised
  raised-Truth b = fold-Truth (raised_step k) b

  pub raised-Variable : (y : Name) → raised k (Variable y) ≡ Variable (deeper_name k y)
  unfolding raised
  raised-Variable y = fold-Variable (raised_step k) y

  pub raised-Blank : (id : ℕ) → raised k (Blank id) ≡ Blank id
  unfolding raised
  raised-Blank id = fold-Blank (raised_step k) id

  pub raised-Prefix : (o : TermPrefix) (a : Term) → raised k (Prefix o a) ≡ Prefix o (raised k a)
  unfolding raised
  raised-Prefix o a = fold-Prefix (raised_step k) o a

  pub raised-Infix : (o : TermOp) (a b : Term) → raised k (Infix o a b) ≡ Infix o (raised k a) (raised k b)
  unfolding raised
  raised-Infix o a b = fold-Infix (raised_step k) o a b

  pub raised-Unary : (o : UnaryOp) (a : Term) → raised k (Unary o a) ≡ Unary o (raised k a)
  unfolding raised
  raised-Unary o a = fold-Unary (raised_step k) o a

  pub raised-Binary : (o : BinaryOp) (a b : Term) → raised k (Binary o a b) ≡ Binary o (raised k a) (raised k b)
  unfolding raised
  raised-Binary o a b = fold-Binary (raised_step k) o a b

  pub raised-Ternary : (o : TernaryOp) (a b c : Term) → raised k (Ternary o a b c) ≡ Ternary (deeper_op k o) (raised k a) (raised k b) (raised k c)
  unfolding raised
  raised-Ternary o a b c = fold-Ternary (raised_step k) o a b c

pub ruleset raised_forms = (raised-Number, raised-Truth, raised-Variable, raised-Blank, raised-Prefix, raised-Infix, raised-Unary, raised-Binary, raised-Ternary)

module _ (types : Types) (x : Name) (t : Term) (free : is_free x.symbol ≡ true) (closed : IsClosed t) where
  abbrev there : Valuation → Valuation
  there v = with_value_at v x (value_of types v t)

  abbrev IsPut : Term → Type 0
  IsPut u = (k : ℕ) (v : Valuation) → value_of types v (put_under k x t u) ≡ value_of types (there v) u

  put_inside : (c : Term) → IsPut c → (k : ℕ) (v : Valuation) (d : BoundVariable) (n : ℤ) → value_of types (with_bound v d n) (put_under k x t c) ≡ value_of types (with_bound (there v) d n) c
  put_inside c p k v d n =
      p k (with_bound v d n)
      ∙ ap (λ w. value_of types (with_value_at (with_bound v d n) x w) c) (steady types t closed v d n)
      ∙ ap (λ (u : Valuation). value_of types u c) (commute v x (value_of types v t) d n free)

  ternary_put : (o : TernaryOp) (a b c : Term) → IsPut a → IsPut b → IsPut c → IsPut (Ternary o a b c)
  ternary_put (ternary.Update id) a b c p q r k v =
      let o = ternary.Update id in
      ap (value_of types v) (put-Ternary x t o a b c k)
      ∙ value-Ternary types v o (put_under k x t a) (put_under k x t b) (put_under (k + 0) x t c)
      ∙ (λ i. value_of_ternary o (λ z. p k v i) (λ z. q k v i) (λ z. r (k + 0) v i) v)
      ∙ sym (value-Ternary types (there v) o a b c)
  ternary_put (ternary.Quantified s d) a b c p q r k v =
      let o = ternary.Quantified s d in
      ap (value_of types v) (put-Ternary x t o a b c k)
      ∙ value-Ternary types v o (put_under k x t a) (put_under k x t b) (put_under (k + 1) x t c)
      ∙ ap value.Truth (ap₂ (λ (m n : Value). quantified s (as_number m) (as_number n) (λ n. as_truth (value_of types (with_bound v d n) (put_under (k + 1) x t c)))) (p k v) (q k v)
      ∙ quantified_same s (as_number (value_of types (there v) a)) (as_number (value_of types (there v) b)) (λ n. as_truth (value_of types (with_bound v d n) (put_under (k + 1) x t c))) (λ n. as_truth (value_of types (with_bound (there v) d n) c))
      (λ n. ap as_truth (put_inside c r (k + 1) v d n)))
      ∙ sym (value-Ternary types (there v) o a b c)

  at_variable : (k : ℕ) (v : Valuation) (y : Name) (b : Bool) → value_of types v (if b then raised k t else Variable y) ≡ (if b then value_of types v t else v y)
  at_variable k v y true = closed_raised types k t closed v
  at_variable k v y false = value-Variable types v y

  put_cases : Cases IsPut
  put_cases = record {
    number = λ n k v. ap (value_of types v) (put-Number x t n k) ∙ value-Number types v n ∙ sym (value-Number types (there v) n);
    truth = λ b k v. ap (value_of types v) (put-Truth x t b k) ∙ value-Truth types v b ∙ sym (value-Truth types (there v) b);
    variable = λ y k v. ap (value_of types v) (put-Variable x t y k) ∙ at_variable k v y (same_name x y) ∙ sym (value-Variable types (there v) y);
    blank = λ id k v. ap (value_of types v) (put-Blank x t id k) ∙ value-Blank types v id ∙ sym (value-Blank types (there v) id);
    prefix = λ o a p k v. ap (value_of types v) (put-Prefix x t o a k) ∙ value-Prefix types v o (put_under k x t a) ∙ ap (value_of_prefix o) (p k v) ∙ sym (value-Prefix types (there v) o a);
    «infix» = λ o a b p q k v. ap (value_of types v) (put-Infix x t o a b k) ∙ value-Infix types v o (put_under k x t a) (put_under k x t b) ∙ ap₂ (value_of_op o) (p k v) (q k v) ∙ sym (value-Infix types (there v) o a b);
    unary = λ o a p k v. ap (value_of types v) (put-Unary x t o a k) ∙ value-Unary types v o (put_under k x t a) ∙ ap (value_of_unary types o) (p k v) ∙ sym (value-Unary types (there v) o a);
    binary = λ o a b p q k v. ap (value_of types v) (put-Binary x t o a b k) ∙ value-Binary types v o (put_under k x t a) (put_under k x t b) ∙ ap₂ (value_of_binary types o) (p k v) (q k v) ∙ sym (value-Binary types (there v) o a b);
    ternary = λ o a b c p q r. ternary_put o a b c p q r;
  }

pub put_is_meant : PutIsMeant
put_is_meant types x t u free closed v = induct (IsPut types x t free closed) (put_cases types x t free closed) u 0 v

-- ---- sorts

module _ (types : Types) (x : Name) (t : Term) (sorted : sort_of types t ≡ Some x.sort) where
  abbrev SortKept : Term → Type 0
  SortKept u = sort_of types (substituted x t u) ≡ sort_of types u

  name_sorted : (y : Name) (b : Bool) → same_name x y ≡ b → sort_of types (if b then t else Variable y) ≡ Some y.sort
  name_sorted y true h = sorted ∙ ap (λ (name : Name). Some name.sort) ((same_name-Decides x y).0 h)
  name_sorted y false h = fold-Variable (sort_step types) y

  kept_cases : Cases SortKept
  kept_cases = record {
    number = λ n. ap (sort_of types) (fold-Number (substituted_step x t) n);
    truth = λ b. ap (sort_of types) (fold-Truth (substituted_step x t) b);
    variable = λ name. ap (sort_of types) (fold-Variable (substituted_step x t) name) ∙ name_sorted name (same_name x name) refl ∙ sym (fold-Variable (sort_step types) name);
    blank = λ id. ap (sort_of types) (fold-Blank (substituted_step x t) id);
    prefix = λ o a p. ap (sort_of types) (fold-Prefix (substituted_step x t) o a) ∙ fold-Prefix (sort_step types) o (substituted x t a) ∙ ap (one (sort_of_prefix o)) p ∙ sym (fold-Prefix (sort_step types) o a);
    «infix» = λ o a b p q. ap (sort_of types) (fold-Infix (substituted_step x t) o a b) ∙ fold-Infix (sort_step types) o (substituted x t a) (substituted x t b) ∙ ap₂ (both (sort_of_op o)) p q ∙ sym (fold-Infix (sort_step types) o a b);
    unary = λ o a p. ap (sort_of types) (fold-Unary (substituted_step x t) o a) ∙ fold-Unary (sort_step types) o (substituted x t a) ∙ ap (one (sort_of_unary types o)) p ∙ sym (fold-Unary (sort_step types) o a);
    binary = λ o a b p q. ap (sort_of types) (fold-Binary (substituted_step x t) o a b) ∙ fold-Binary (sort_step types) o (substituted x t a) (substituted x t b) ∙ ap₂ (both (sort_of_binary types o)) p q ∙ sym (fold-Binary (sort_step types) o a b);
    ternary = λ o a b c p q r. ap (sort_of types) (fold-Ternary (substituted_step x t) o a b c) ∙ fold-Ternary (sort_step types) o (substituted x t a) (substituted x t b) (substituted x t c)
        ∙ (λ i. three (sort_of_ternary types o) (p i) (q i) (r i)) ∙ sym (fold-Ternary (sort_step types) o a b c);
  }

pub substitution_keeps_sorts : SubstitutionKeepsSorts
substitution_keeps_sorts types x t u sorted = induct (SortKept types x t sorted) (kept_cases types x t sorted) u
