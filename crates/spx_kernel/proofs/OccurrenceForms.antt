-- Whether a term occurs in another one, and the other one with a third for it, at each form of a term.
use Rattle.std.proofs.Common.{◌≡◌, ℕ, ◌+◌, ℤ, Bool, true, false, ◌||◌, Some, None, refl, sym, ap, ◌∙◌, if◌then◌else◌}
use Rattle.spx_term.specs.declared.term.Name.{Name}
use Rattle.spx_term.specs.declared.term.TermOp.{TermOp}
use Rattle.spx_term.specs.declared.term.TermPrefix.{TermPrefix}
use Rattle.spx_term.specs.declared.term.UnaryOp.{UnaryOp}
use Rattle.spx_term.specs.declared.term.BinaryOp.{BinaryOp}
use Rattle.spx_term.specs.declared.term.TernaryOp.{TernaryOp}
use Rattle.spx_term.specs.declared.term.Term.{Term}
use Rattle.spx_term.specs.declared.term.Term.TheVariants.{Number, Truth, Variable, Blank, Prefix, Infix, Unary, Binary, Ternary}
use Rattle.spx_term.specs.Equality.{same_term}
use Rattle.spx_term.specs.Substitution.{raised, levels}
use Rattle.spx_term.proofs.Terms.{Cases, induct, fold-Number, fold-Truth, fold-Variable, fold-Blank, fold-Prefix, fold-Infix, fold-Unary, fold-Binary, fold-Ternary}
use Rattle.spx_kernel.specs.Rewriting.{Change, change_step, change, rewritten}
use Rattle.spx_kernel.specs.Occurrences.{occurs, replaced}

module _ (a b : Term) where
  -- a change keeps the term as it was
  abbrev Before : Term → Type 0
  Before t = (change a b t).before ≡ t

  before_cases : Cases Before
  unfolding change
  before_cases = record {
    number = λ n. ap (λ (c : Change). c.before) (fold-Number (change_step a b) n);
    truth = λ x. ap (λ (c : Change). c.before) (fold-Truth (change_step a b) x);
    variable = λ name. ap (λ (c : Change). c.before) (fold-Variable (change_step a b) name);
    blank = λ id. ap (λ (c : Change). c.before) (fold-Blank (change_step a b) id);
    prefix = λ o x p. ap (λ (c : Change). c.before) (fold-Prefix (change_step a b) o x) ∙ (λ i. Prefix o (p i));
    «infix» = λ o x y p q. ap (λ (c : Change). c.before) (fold-Infix (change_step a b) o x y) ∙ (λ i. Infix o (p i) (q i));
    unary = λ o x p. ap (λ (c : Change). c.before) (fold-Unary (change_step a b) o x) ∙ (λ i. Unary o (p i));
    binary = λ o x y p q. ap (λ (c : Change). c.before) (fold-Binary (change_step a b) o x y) ∙ (λ i. Binary o (p i) (q i));
    ternary = λ o x y z p q r. ap (λ (c : Change). c.before) (fold-Ternary (change_step a b) o x y z) ∙ (λ i. Ternary o (p i) (q i) (r i));
  }

  before : (t : Term) → (change a b t).before ≡ t
  before t = induct Before before_cases t

  module _ (k : ℕ) where
    abbrev found : Term → Bool
    found t = (change a b t).found k

    found-Number : (n : ℤ) → found (Number n) ≡ (same_term (Number n) (raised k a) || false)
    unfolding change
    found-Number n = ap (λ (c : Change). c.found k) (fold-Number (change_step a b) n)

    found-Truth : (x : Bool) → found (Truth x) ≡ (same_term (Truth x) (raised k a) || false)
    unfolding change
    found-Truth x = ap (λ (c : Change). c.found k) (fold-Truth (change_step a b) x)

    found-Variable : (name : Name) → found (Variable name) ≡ (same_term (Variable name) (raised k a) || false)
    unfolding change
    found-Variable name = ap (λ (c : Change). c.found k) (fold-Variable (change_step a b) name)

    found-Blank : (id : ℕ) → found (Blank id) ≡ (same_term (Blank id) (raised k a) || false)
    unfolding change
    found-Blank id = ap (λ (c : Change). c.found k) (fold-Blank (change_step a b) id)

    found-Prefix : (o : TermPrefix) (x : Term) → found (Prefix o x) ≡ (same_term (Prefix o x) (raised k a) || found x)
    unfolding change
    found-Prefix o x = ap (λ (c : Change). c.found k) (fold-Prefix (change_step a b) o x) ∙ (λ i. same_term (Prefix o (before x i)) (raised k a) || found x)

    found-Infix : (o : TermOp) (x y : Term) → found (Infix o x y) ≡ (same_term (Infix o x y) (raised k a) || (found x || found y))
    unfolding change
    found-Infix o x y = ap (λ (c : Change). c.found k) (fold-Infix (change_step a b) o x y) ∙ (λ i. same_term (Infix o (before x i) (before y i)) (raised k a) || (found x || found y))

    found-Unary : (o : UnaryOp) (x : Term) → found (Unary o x) ≡ (same_term (Unary o x) (raised k a) || found x)
    unfolding change
    found-Unary o x = ap (λ (c : Change). c.found k) (fold-Unary (change_step a b) o x) ∙ (λ i. same_term (Unary o (before x i)) (raised k a) || found x)

    found-Binary : (o : BinaryOp) (x y : Term) → found (Binary o x y) ≡ (same_term (Binary o x y) (raised k a) || (found x || found y))
    unfolding change
    found-Binary o x y = ap (λ (c : Change). c.found k) (fold-Binary (change_step a b) o x y) ∙ (λ i. same_term (Binary o (before x i) (before y i)) (raised k a) || (found x || found y))

    found-Ternary : (o : TernaryOp) (x y z : Term) → found (Ternary o x y z) ≡ (same_term (Ternary o x y z) (raised k a) || (found x || (found y || (change a b z).found (k + levels o))))
    unfolding change
    found-Ternary o x y z = ap (λ (c : Change). c.found k) (fold-Ternary (change_step a b) o x y z) ∙ (λ i. same_term (Ternary o (before x i) (before y i) (before z i)) (raised k a) || (found x || (found y || (change a b z).found (k + levels o))))

    pub replaced-Number : (n : ℤ) → replaced k a b (Number n) ≡ (if same_term (Number n) (raised k a) then raised k b else (Number n))
    unfolding replaced change
    replaced-Number n = ap (λ (c : Change). c.after k) (fold-Number (change_step a b) n)

    pub replaced-Truth : (x : Bool) → replaced k a b (Truth x) ≡ (if same_term (Truth x) (raised k a) then raised k b else (Truth x))
    unfolding replaced change
    replaced-Truth x = ap (λ (c : Change). c.after k) (fold-Truth (change_step a b) x)

    pub replaced-Variable : (name : Name) → replaced k a b (Variable name) ≡ (if same_term (Variable name) (raised k a) then raised k b else (Variable name))
    unfolding replaced change
    replaced-Variable name = ap (λ (c : Change). c.after k) (fold-Variable (change_step a b) name)

    pub replaced-Blank : (id : ℕ) → replaced k a b (Blank id) ≡ (if same_term (Blank id) (raised k a) then raised k b else (Blank id))
    unfolding replaced change
    replaced-Blank id = ap (λ (c : Change). c.after k) (fold-Blank (change_step a b) id)

    pub replaced-Prefix : (o : TermPrefix) (x : Term) → replaced k a b (Prefix o x) ≡ (if same_term (Prefix o x) (raised k a) then raised k b else Prefix o (replaced k a b x))
    unfolding replaced change
    replaced-Prefix o x = ap (λ (c : Change). c.after k) (fold-Prefix (change_step a b) o x) ∙ (λ i. if same_term (Prefix o (before x i)) (raised k a) then raised k b else Prefix o (replaced k a b x))

    pub replaced-Infix : (o : TermOp) (x y : Term) → replaced k a b (Infix o x y) ≡ (if same_term (Infix o x y) (raised k a) then raised k b else Infix o (replaced k a b x) (replaced k a b y))
    unfolding replaced change
    replaced-Infix o x y = ap (λ (c : Change). c.after k) (fold-Infix (change_step a b) o x y) ∙ (λ i. if same_term (Infix o (before x i) (before y i)) (raised k a) then raised k b else Infix o (replaced k a b x) (replaced k a b y))

    pub replaced-Unary : (o : UnaryOp) (x : Term) → replaced k a b (Unary o x) ≡ (if same_term (Unary o x) (raised k a) then raised k b else Unary o (replaced k a b x))
    unfolding replaced change
    replaced-Unary o x = ap (λ (c : Change). c.after k) (fold-Unary (change_step a b) o x) ∙ (λ i. if same_term (Unary o (before x i)) (raised k a) then raised k b else Unary o (replaced k a b x))

    pub replaced-Binary : (o : BinaryOp) (x y : Term) → replaced k a b (Binary o x y) ≡ (if same_term (Binary o x y) (raised k a) then raised k b else Binary o (replaced k a b x) (replaced k a b y))
    unfolding replaced change
    replaced-Binary o x y = ap (λ (c : Change). c.after k) (fold-Binary (change_step a b) o x y) ∙ (λ i. if same_term (Binary o (before x i) (before y i)) (raised k a) then raised k b else Binary o (replaced k a b x) (replaced k a b y))

    pub replaced-Ternary : (o : TernaryOp) (x y z : Term) → replaced k a b (Ternary o x y z) ≡ (if same_term (Ternary o x y z) (raised k a) then raised k b else Ternary o (replaced k a b x) (replaced k a b y) (replaced (k + levels o) a b z))
    unfolding replaced change
    replaced-Ternary o x y z = ap (λ (c : Change). c.after k) (fold-Ternary (change_step a b) o x y z) ∙ (λ i. if same_term (Ternary o (before x i) (before y i) (before z i)) (raised k a) then raised k b else Ternary o (replaced k a b x) (replaced k a b y) (replaced (k + levels o) a b z))

pub ruleset replaced_forms = (replaced-Number, replaced-Truth, replaced-Variable, replaced-Blank, replaced-Prefix, replaced-Infix, replaced-Unary, replaced-Binary, replaced-Ternary)

module _ (k : ℕ) (a : Term) where
  pub occurs-Number : (n : ℤ) → occurs k a (Number n) ≡ (same_term (Number n) (raised k a) || false)
  unfolding occurs
  occurs-Number n = found-Number a a k n

  pub occurs-Truth : (x : Bool) → occurs k a (Truth x) ≡ (same_term (Truth x) (raised k a) || false)
  unfolding occurs
  occurs-Truth x = found-Truth a a k x

  pub occurs-Variable : (name : Name) → occurs k a (Variable name) ≡ (same_term (Variable name) (raised k a) || false)
  unfolding occurs
  occurs-Variable name = found-Variable a a k name

  pub occurs-Blank : (id : ℕ) → occurs k a (Blank id) ≡ (same_term (Blank id) (raised k a) || false)
  unfolding occurs
  occurs-Blank id = found-Blank a a k id

  pub occurs-Prefix : (o : TermPrefix) (x : Term) → occurs k a (Prefix o x) ≡ (same_term (Prefix o x) (raised k a) || occurs k a x)
  unfolding occurs
  occurs-Prefix o x = found-Prefix a a k o x

  pub occurs-Infix : (o : TermOp) (x y : Term) → occurs k a (Infix o x y) ≡ (same_term (Infix o x y) (raised k a) || (occurs k a x || occurs k a y))
  unfolding occurs
  occurs-Infix o x y = found-Infix a a k o x y

  pub occurs-Unary : (o : UnaryOp) (x : Term) → occurs k a (Unary o x) ≡ (same_term (Unary o x) (raised k a) || occurs k a x)
  unfolding occurs
  occurs-Unary o x = found-Unary a a k o x

  pub occurs-Binary : (o : BinaryOp) (x y : Term) → occurs k a (Binary o x y) ≡ (same_term (Binary o x y) (raised k a) || (occurs k a x || occurs k a y))
  unfolding occurs
  occurs-Binary o x y = found-Binary a a k o x y

  pub occurs-Ternary : (o : TernaryOp) (x y z : Term) → occurs k a (Ternary o x y z) ≡ (same_term (Ternary o x y z) (raised k a) || (occurs k a x || (occurs k a y || occurs (k + levels o) a z)))
  unfolding occurs
  occurs-Ternary o x y z = found-Ternary a a k o x y z

pub ruleset occurs_forms = (occurs-Number, occurs-Truth, occurs-Variable, occurs-Blank, occurs-Prefix, occurs-Infix, occurs-Unary, occurs-Binary, occurs-Ternary)

-- whether a occurs is no matter of b
module _ (a b c : Term) where
  abbrev Alike : Term → Type 0
  Alike t = (k : ℕ) → (change a b t).found k ≡ (change a c t).found k

  alike_cases : Cases Alike
  alike_cases = record {
    number = λ n k. found-Number a b k n ∙ sym (found-Number a c k n);
    truth = λ x k. found-Truth a b k x ∙ sym (found-Truth a c k x);
    variable = λ name k. found-Variable a b k name ∙ sym (found-Variable a c k name);
    blank = λ id k. found-Blank a b k id ∙ sym (found-Blank a c k id);
    prefix = λ o x p k. found-Prefix a b k o x ∙ (λ i. same_term (Prefix o x) (raised k a) || p k i) ∙ sym (found-Prefix a c k o x);
    «infix» = λ o x y p q k. found-Infix a b k o x y ∙ (λ i. same_term (Infix o x y) (raised k a) || (p k i || q k i)) ∙ sym (found-Infix a c k o x y);
    unary = λ o x p k. found-Unary a b k o x ∙ (λ i. same_term (Unary o x) (raised k a) || p k i) ∙ sym (found-Unary a c k o x);
    binary = λ o x y p q k. found-Binary a b k o x y ∙ (λ i. same_term (Binary o x y) (raised k a) || (p k i || q k i)) ∙ sym (found-Binary a c k o x y);
    ternary = λ o x y z p q r k. found-Ternary a b k o x y z ∙ (λ i. same_term (Ternary o x y z) (raised k a) || (p k i || (q k i || r (k + levels o) i))) ∙ sym (found-Ternary a c k o x y z);
  }

pub rewritten_is : (a b t : Term) → rewritten a b t ≡ (if occurs 0 a t then Some (replaced 0 a b t) else None)
unfolding rewritten occurs replaced
rewritten_is a b t = ap (λ test. if test then Some (replaced 0 a b t) else None) (induct (Alike a b a) (alike_cases a b a) t 0)

-- where the term is a, it becomes b
module _ (k : ℕ) (a b : Term) where
  abbrev Replaced : Term → Type 0
  Replaced t = (rest : Term) × (replaced k a b t ≡ (if same_term t (raised k a) then raised k b else rest))

  replaced_cases : Cases Replaced
  replaced_cases = record {
    number = λ n. (_, replaced-Number a b k n);
    truth = λ x. (_, replaced-Truth a b k x);
    variable = λ name. (_, replaced-Variable a b k name);
    blank = λ id. (_, replaced-Blank a b k id);
    prefix = λ o x p. (_, replaced-Prefix a b k o x);
    «infix» = λ o x y p q. (_, replaced-Infix a b k o x y);
    unary = λ o x p. (_, replaced-Unary a b k o x);
    binary = λ o x y p q. (_, replaced-Binary a b k o x y);
    ternary = λ o x y z p q r. (_, replaced-Ternary a b k o x y z);
  }

  by_test : (test : Bool) (rest : Term) → test ≡ true → (if test then raised k b else rest) ≡ raised k b
  by_test true rest h = refl
  by_test false rest h = absurd (cc)

  pub replaced_itself : (t : Term) → same_term t (raised k a) ≡ true → replaced k a b t ≡ raised k b
  replaced_itself t h = let r = induct Replaced replaced_cases t in r.1 ∙ by_test (same_term t (raised k a)) r.0 h
