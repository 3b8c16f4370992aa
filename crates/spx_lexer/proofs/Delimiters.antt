-- The longest delimiter before a text.
use Rattle.std.proofs.Common.{◌≡◌, ℕ, suc, ◌≤◌, Bool, true, false, cond, List, [], ◌∷◌, ◌++◌, length, Option, Some, None, refl, sym, ap, ◌∙◌, arith}
use Rattle.std.specs.Prelude.{◌&&◌, nat_le}
use Rattle.std.specs.List.{list_all}
use Rattle.std.proofs.lemmas.Bool.{leb-true}
use Rattle.spx_tree.specs.declared.token.Kind.{Kind}
use Rattle.spx_tree.specs.declared.token.Kind.TheVariants as kind
use Rattle.spx_tree.specs.Lexemes.{kind_of, code_delimiters, annotation_delimiters, delimiters}
use Rattle.spx_tree.proofs.Shapes.{kind_of_passes}
use Rattle.spx_lexer.specs.Pieces.{single, pair, pair_at, is_equivalence, sized, or_else, delimiter_at}

and_true : (b : Bool) → (b && true) ≡ b
and_true true = refl
and_true false = refl

and_false : (b : Bool) → (b && false) ≡ false
and_false true = refl
and_false false = refl

and_assoc : (a b c : Bool) → (a && (b && c)) ≡ (a && b && c)
and_assoc true b c = refl
and_assoc false b c = refl

-- ---- the tables

single_is : (m : Bool) (a : ℕ) → kind_of (delimiters m) (a ∷ []) ≡ single m a
unfolding delimiters code_delimiters annotation_delimiters
single_is false a = simp (and_true, and_false)
single_is true a = simp (and_true, and_false)

pair_is : (m : Bool) (a b : ℕ) → kind_of (delimiters m) (a ∷ b ∷ []) ≡ pair m a b
unfolding delimiters code_delimiters annotation_delimiters
pair_is false a b = simp (and_true, and_false)
pair_is true a b = simp (and_true, and_false)

triple_is : (m : Bool) (a b c : ℕ) (rest : List ℕ) → kind_of (delimiters m) (a ∷ b ∷ c ∷ []) ≡ cond (is_equivalence m a (b ∷ c ∷ rest)) (Some kind.Equivalence) None
unfolding delimiters code_delimiters annotation_delimiters
triple_is false a b c rest = simp and_false
triple_is true a b c rest = simp (and_true, and_false, and_assoc)

-- no delimiter has more than three bytes
is_short : List ℕ → Bool
is_short bytes = nat_le (length bytes) 3

all_short : (m : Bool) → list_all (λ (e : List ℕ × Kind). is_short e.0) (delimiters m) ≡ true
unfolding is_short delimiters code_delimiters annotation_delimiters
all_short false = refl
all_short true = refl

delimiter_short : (m : Bool) (bytes : List ℕ) (what : Kind) → kind_of (delimiters m) bytes ≡ Some what → length bytes ≤ 3
unfolding is_short
delimiter_short m bytes what e = leb-true (length bytes) 3 (kind_of_passes is_short (delimiters m) bytes what (all_short m) e)

-- ---- what is found stands in a table

pub record Delimiter (m : Bool) (a : ℕ) (bs : List ℕ) (what : Kind) (len : ℕ) : Type 0 where
  pub front : List ℕ
  pub rest : List ℕ
  pub parts : bs ≡ front ++ rest
  pub len_is : suc (length front) ≡ len
  pub is : kind_of (delimiters m) (a ∷ front) ≡ Some what

abbrev pub IsFound : Bool → ℕ → List ℕ → Option (Kind × ℕ) → Type 0
IsFound m a bs None = Unit {0}
IsFound m a bs (Some found) = Delimiter m a bs found.0 found.1

one_found : (m : Bool) (a : ℕ) (bs : List ℕ) (o : Option Kind) → single m a ≡ o → IsFound m a bs (sized 1 o)
one_found m a bs None e = tt
one_found m a bs (Some what) e = record { front = []; rest = bs; parts = refl; len_is = refl; is = single_is m a ∙ e }

two_found : (m : Bool) (a : ℕ) (bs : List ℕ) (o : Option Kind) → pair_at m a bs ≡ o → IsFound m a bs (or_else (sized 2 o) (sized 1 (single m a)))
two_found m a bs None e = one_found m a bs (single m a) refl
two_found m a [] (Some what) e = absurd cc
two_found m a (b ∷ bs) (Some what) e = record { front = b ∷ []; rest = bs; parts = refl; len_is = refl; is = pair_is m a b ∙ e }

three_found : (m : Bool) (a : ℕ) (bs : List ℕ) (t : Bool) → is_equivalence m a bs ≡ t → IsFound m a bs (cond t (Some (kind.Equivalence, 3)) (or_else (sized 2 (pair_at m a bs)) (sized 1 (single m a))))
three_found m a bs false e = two_found m a bs (pair_at m a bs) refl
three_found m a [] true e = absurd cc
three_found m a (b ∷ []) true e = absurd cc
three_found m a (b ∷ c ∷ bs) true e = record { front = b ∷ c ∷ []; rest = bs; parts = refl; len_is = refl; is = triple_is m a b c bs ∙ ap (λ (t : Bool). cond t (Some kind.Equivalence) None) e }

pub delimiter_found : (m : Bool) (a : ℕ) (bs : List ℕ) → IsFound m a bs (delimiter_at m a bs)
unfolding delimiter_at
delimiter_found m a bs = three_found m a bs (is_equivalence m a bs) refl

-- ---- and none at the front is longer

abbrev pub len_of : Option (Kind × ℕ) → ℕ
len_of None = 0
len_of (Some found) = found.1

single_len : (o : Option Kind) (p : Option Kind) (t : Bool) (what : Kind) → o ≡ Some what → 1 ≤ len_of (cond t (Some (kind.Equivalence, 3)) (or_else (sized 2 p) (sized 1 o)))
single_len o p true what e = omega arith
single_len o (Some x) false what e = omega arith
single_len (Some x) None false what e = omega arith
single_len None None false what e = absurd cc

pair_len : (o : Option Kind) (p : Option Kind) (t : Bool) (what : Kind) → p ≡ Some what → 2 ≤ len_of (cond t (Some (kind.Equivalence, 3)) (or_else (sized 2 p) (sized 1 o)))
pair_len o p true what e = omega arith
pair_len o (Some x) false what e = omega arith
pair_len o None false what e = absurd cc

triple_len : (o : Option Kind) (p : Option Kind) (t : Bool) (what : Kind) → cond t (Some kind.Equivalence) None ≡ Some what → 3 ≤ len_of (cond t (Some (kind.Equivalence, 3)) (or_else (sized 2 p) (sized 1 o)))
triple_len o p true what e = omega arith
triple_len o p false what e = absurd cc

pub delimiter_at-longest : (m : Bool) (a : ℕ) (front rest : List ℕ) (what : Kind) → kind_of (delimiters m) (a ∷ front) ≡ Some what → suc (length front) ≤ len_of (delimiter_at m a (front ++ rest))
unfolding delimiter_at
delimiter_at-longest m a [] rest what e = single_len (single m a) (pair_at m a rest) (is_equivalence m a rest) what (sym (single_is m a) ∙ e)
delimiter_at-longest m a (b ∷ []) rest what e = pair_len (single m a) (pair m a b) (is_equivalence m a (b ∷ rest)) what (sym (pair_is m a b) ∙ e)
delimiter_at-longest m a (b ∷ c ∷ []) rest what e = triple_len (single m a) (pair m a b) (is_equivalence m a (b ∷ c ∷ rest)) what (sym (triple_is m a b c rest) ∙ e)
delimiter_at-longest m a (b ∷ c ∷ d ∷ front) rest what e = absurd (omega (arith, delimiter_short m (a ∷ b ∷ c ∷ d ∷ front) what e))
