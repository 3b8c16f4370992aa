-- The names of each form of a term.
use Rattle.std.proofs.Common.{◌≡◌, ℕ, ℤ, Bool, true, false, ◌&&◌, ◌||◌, max, List, [], ◌∷◌, ◌++◌, refl, ap, ◌∙◌, if◌then◌else◌, arith}
use Rattle.std.specs.List.{list_all, list_any, flat_map}
use Rattle.std.proofs.lemmas.List.Folds.{list_all-append, list_any-append}
use Rattle.spx_term.specs.declared.condition.Sequent.{Sequent}
use Rattle.spx_term.specs.declared.term.Name.{Name}
use Rattle.spx_term.specs.declared.term.TermOp.{TermOp}
use Rattle.spx_term.specs.declared.term.TermPrefix.{TermPrefix}
use Rattle.spx_term.specs.declared.term.UnaryOp.{UnaryOp}
use Rattle.spx_term.specs.declared.term.BinaryOp.{BinaryOp}
use Rattle.spx_term.specs.declared.term.TernaryOp.{TernaryOp}
use Rattle.spx_term.specs.declared.term.Term.{Term}
use Rattle.spx_term.specs.declared.term.Term.TheVariants.{Number, Truth, Variable, Blank, Prefix, Infix, Unary, Binary, Ternary}
use Rattle.spx_term.specs.Equality.{same_name}
use Rattle.spx_term.specs.Substitution.{is_free}
use Rattle.spx_term.proofs.Equality.{same_sort-Decides}
use Rattle.spx_term.proofs.Terms.{fold-Number, fold-Truth, fold-Variable, fold-Blank, fold-Prefix, fold-Infix, fold-Unary, fold-Binary, fold-Ternary}
use Rattle.spx_kernel.specs.Names.{names_step, names_of, is_name_of, number_after, greatest_step, greatest, greatest_in}

-- ---- names that pass a test

abbrev names_with : Bool → Name → List Name
names_with b name = if b then name ∷ [] else []

any_with : (p : Name → Bool) (b : Bool) (name : Name) → list_any p (names_with b name) ≡ (b && p name)
any_with p true name = by_test (p name) where
  by_test : (b : Bool) → (b || false) ≡ b
  by_test true = refl
  by_test false = refl
any_with p false name = refl

all_with : (p : Name → Bool) (b : Bool) (name : Name) → list_all p (names_with b name) ≡ (if b then p name else true)
all_with p true name = by_test (p name) where
  by_test : (b : Bool) → (b && true) ≡ b
  by_test true = refl
  by_test false = refl
all_with p false name = refl

module _ (p : Name → Bool) where
  pub any-Number : (n : ℤ) → list_any p (names_of (Number n)) ≡ false
  unfolding names_of
  any-Number n = ap (list_any p) (fold-Number names_step n)

  pub any-Truth : (b : Bool) → list_any p (names_of (Truth b)) ≡ false
  unfolding names_of
  any-Truth b = ap (list_any p) (fold-Truth names_step b)

  pub any-Variable : (name : Name) → list_any p (names_of (Variable name)) ≡ (is_free name.symbol && p name)
  unfolding names_of
  any-Variable name = ap (list_any p) (fold-Variable names_step name) ∙ any_with p (is_free name.symbol) name

  pub any-Blank : (id : ℕ) → list_any p (names_of (Blank id)) ≡ false
  unfolding names_of
  any-Blank id = ap (list_any p) (fold-Blank names_step id)

  pub any-Prefix : (o : TermPrefix) (a : Term) → list_any p (names_of (Prefix o a)) ≡ list_any p (names_of a)
  unfolding names_of
  any-Prefix o a = ap (list_any p) (fold-Prefix names_step o a)

  pub any-Infix : (o : TermOp) (a b : Term) → list_any p (names_of (Infix o a b)) ≡ (list_any p (names_of a) || list_any p (names_of b))
  unfolding names_of
  any-Infix o a b = ap (list_any p) (fold-Infix names_step o a b) ∙ list_any-append p (names_of a) (names_of b)

  pub any-Unary : (o : UnaryOp) (a : Term) → list_any p (names_of (Unary o a)) ≡ list_any p (names_of a)
  unfolding names_of
  any-Unary o a = ap (list_any p) (fold-Unary names_step o a)

  pub any-Binary : (o : BinaryOp) (a b : Term) → list_any p (names_of (Binary o a b)) ≡ (list_any p (names_of a) || list_any p (names_of b))
  unfolding names_of
  any-Binary o a b = ap (list_any p) (fold-Binary names_step o a b) ∙ list_any-append p (names_of a) (names_of b)

  pub any-Ternary : (o : TernaryOp) (a b c : Term) → list_any p (names_of (Ternary o a b c)) ≡ (list_any p (names_of a) || (list_any p (names_of b) || list_any p (names_of c)))
  unfolding names_of
  any-Ternary o a b c =
      ap (list_any p) (fold-Ternary names_step o a b c) ∙ list_any-append p (names_of a) (names_of b ++ names_of c) ∙ ap (λ x. list_any p (names_of a) || x) (list_any-append p (names_of b) (names_of c))

  pub all-Number : (n : ℤ) → list_all p (names_of (Number n)) ≡ true
  unfolding names_of
  all-Number n = ap (list_all p) (fold-Number names_step n)

  pub all-Truth : (b : Bool) → list_all p (names_of (Truth b)) ≡ true
  unfolding names_of
  all-Truth b = ap (list_all p) (fold-Truth names_step b)

  pub all-Variable : (name : Name) → list_all p (names_of (Variable name)) ≡ (if is_free name.symbol then p name else true)
  unfolding names_of
  all-Variable name = ap (list_all p) (fold-Variable names_step name) ∙ all_with p (is_free name.symbol) name

  pub all-Blank : (id : ℕ) → list_all p (names_of (Blank id)) ≡ true
  unfolding names_of
  all-Blank id = ap (list_all p) (fold-Blank names_step id)

  pub all-Prefix : (o : TermPrefix) (a : Term) → list_all p (names_of (Prefix o a)) ≡ list_all p (names_of a)
  unfolding names_of
  all-Prefix o a = ap (list_all p) (fold-Prefix names_step o a)

  pub all-Infix : (o : TermOp) (a b : Term) → list_all p (names_of (Infix o a b)) ≡ (list_all p (names_of a) && list_all p (names_of b))
  unfolding names_of
  all-Infix o a b = ap (list_all p) (fold-Infix names_step o a b) ∙ list_all-append p (names_of a) (names_of b)

  pub all-Unary : (o : UnaryOp) (a : Term) → list_all p (names_of (Unary o a)) ≡ list_all p (names_of a)
  unfolding names_of
  all-Unary o a = ap (list_all p) (fold-Unary names_step o a)

  pub all-Binary : (o : BinaryOp) (a b : Term) → list_all p (names_of (Binary o a b)) ≡ (list_all p (names_of a) && list_all p (names_of b))
  unfolding names_of
  all-Binary o a b = ap (list_all p) (fold-Binary names_step o a b) ∙ list_all-append p (names_of a) (names_of b)

  pub all-Ternary : (o : TernaryOp) (a b c : Term) → list_all p (names_of (Ternary o a b c)) ≡ (list_all p (names_of a) && (list_all p (names_of b) && list_all p (names_of c)))
  unfolding names_of
  all-Ternary o a b c =
      ap (list_all p) (fold-Ternary names_step o a b c) ∙ list_all-append p (names_of a) (names_of b ++ names_of c) ∙ ap (λ x. list_all p (names_of a) && x) (list_all-append p (names_of b) (names_of c))

pub ruleset any_forms = (any-Number, any-Truth, any-Variable, any-Blank, any-Prefix, any-Infix, any-Unary, any-Binary, any-Ternary)

pub ruleset all_forms = (all-Number, all-Truth, all-Variable, all-Blank, all-Prefix, all-Infix, all-Unary, all-Binary, all-Ternary)

-- the names of several terms
pub any_of-cons : (p : Name → Bool) (t : Term) (ts : List Term) → list_any p (flat_map names_of (t ∷ ts)) ≡ (list_any p (names_of t) || list_any p (flat_map names_of ts))
any_of-cons p t ts = list_any-append p (names_of t) (flat_map names_of ts)

pub name_of_is : (s : Sequent) (x : Name) → is_name_of s x ≡ (list_any (same_name x) (names_of s.goal) || list_any (same_name x) (flat_map names_of s.hyps))
name_of_is s x = any_of-cons (same_name x) s.goal s.hyps

-- ---- numbers of new names

pub greatest-Number : (n : ℤ) → greatest (Number n) ≡ 0
unfolding greatest
greatest-Number n = fold-Number greatest_step n

pub greatest-Truth : (b : Bool) → greatest (Truth b) ≡ 0
unfolding greatest
greatest-Truth b = fold-Truth greatest_step b

pub greatest-Variable : (name : Name) → greatest (Variable name) ≡ number_after name.symbol
unfolding greatest
greatest-Variable name = fold-Variable greatest_step name

pub greatest-Blank : (id : ℕ) → greatest (Blank id) ≡ 0
unfolding greatest
greatest-Blank id = fold-Blank greatest_step id

pub greatest-Prefix : (o : TermPrefix) (a : Term) → greatest (Prefix o a) ≡ greatest a
unfolding greatest
greatest-Prefix o a = fold-Prefix greatest_step o a

pub greatest-Infix : (o : TermOp) (a b : Term) → greatest (Infix o a b) ≡ max (greatest a) (greatest b)
unfolding greatest
greatest-Infix o a b = fold-Infix greatest_step o a b

pub greatest-Unary : (o : UnaryOp) (a : Term) → greatest (Unary o a) ≡ greatest a
unfolding greatest
greatest-Unary o a = fold-Unary greatest_step o a

pub greatest-Binary : (o : BinaryOp) (a b : Term) → greatest (Binary o a b) ≡ max (greatest a) (greatest b)
unfolding greatest
greatest-Binary o a b = fold-Binary greatest_step o a b

pub greatest-Ternary : (o : TernaryOp) (a b c : Term) → greatest (Ternary o a b c) ≡ max (greatest a) (max (greatest b) (greatest c))
unfolding greatest
greatest-Ternary o a b c = fold-Ternary greatest_step o a b c

pub ruleset greatest_forms = (greatest-Number, greatest-Truth, greatest-Variable, greatest-Blank, greatest-Prefix, greatest-Infix, greatest-Unary, greatest-Binary, greatest-Ternary)

-- the greatest of one term more
pub greatest_more : (m : ℕ) (t : Term) (ts : List Term) → max m (greatest_in (t ∷ ts)) ≡ max (max m (greatest t)) (greatest_in ts)
greatest_more m t ts = omega arith

pub ruleset several_laws = (any_of-cons, greatest_more)

pub ruleset sort_laws = (same_sort-Decides)
