-- The longest run of a word and of a line.
use Rattle.std.proofs.Common.{◌≡◌, ◌≢◌, ◌⊎◌, inl, inr, ℕ, suc, ◌≤◌, Bool, true, false, cond, List, [], ◌∷◌, ◌++◌, length, refl, sym, ap, arith, eqb}
use Rattle.std.specs.List.{All}
use Rattle.std.specs.Char.{is_ascii_alphanumeric}
use Rattle.std.proofs.lemmas.Bool.{eqb-true, eqb-false}
use Rattle.std.proofs.lemmas.List.Elements.{All-nil, All-cons}
use Rattle.spx_tree.specs.Lexemes.{IsWordRest, IsAfterUnderscore}
use Rattle.spx_tree.specs.Spells.{EndsLine}
use Rattle.spx_lexer.specs.Pieces.{word_rest_len, underscore_len, line_len}

-- ---- words

pub record WordRest (bs : List ℕ) (n : ℕ) : Type 0 where
  pub front : List ℕ
  pub rest : List ℕ
  pub parts : bs ≡ front ++ rest
  pub len : length front ≡ n
  pub is : IsWordRest front

record Underscore (bs : List ℕ) (n : ℕ) : Type 0 where
  front : List ℕ
  rest : List ℕ
  parts : bs ≡ front ++ rest
  len : suc (length front) ≡ n
  is : IsAfterUnderscore front

word_by : (b : ℕ) (bs : List ℕ) (h u : Bool) → is_ascii_alphanumeric b ≡ h → eqb b 95 ≡ u → WordRest bs (word_rest_len bs) → (underscore_len bs ≡ 0) ⊎ Underscore bs (underscore_len bs)
    → WordRest (b ∷ bs) (cond h (suc (word_rest_len bs)) (cond u (underscore_len bs) 0))
word_by b bs true u e f r s = record { front = b ∷ r.front; rest = r.rest; parts = ap (λ (x : List ℕ). b ∷ x) r.parts; len = ap suc r.len; is = inl (e, r.is) }
word_by b bs false true e f r (inl s) = record { front = []; rest = b ∷ bs; parts = refl; len = sym s; is = tt }
word_by b bs false true e f r (inr s) = record { front = b ∷ s.front; rest = s.rest; parts = ap (λ (x : List ℕ). b ∷ x) s.parts; len = s.len; is = inr (eqb-true b 95 f, s.is) }
word_by b bs false false e f r s = record { front = []; rest = b ∷ bs; parts = refl; len = refl; is = tt }

underscore_by : (b : ℕ) (bs : List ℕ) (h : Bool) → is_ascii_alphanumeric b ≡ h → WordRest bs (word_rest_len bs)
    → (cond h (suc (suc (word_rest_len bs))) 0 ≡ 0) ⊎ Underscore (b ∷ bs) (cond h (suc (suc (word_rest_len bs))) 0)
underscore_by b bs true e r = inr (record { front = b ∷ r.front; rest = r.rest; parts = ap (λ (x : List ℕ). b ∷ x) r.parts; len = ap suc (ap suc r.len); is = (e, r.is) })
underscore_by b bs false e r = inl refl

mutual
  pub word_rest : (bs : List ℕ) → WordRest bs (word_rest_len bs)
  word_rest [] = record { front = []; rest = []; parts = refl; len = refl; is = tt }
  word_rest (b ∷ bs) = word_by b bs (is_ascii_alphanumeric b) (eqb b 95) refl refl (word_rest bs) (underscore bs)

  underscore : (bs : List ℕ) → (underscore_len bs ≡ 0) ⊎ Underscore bs (underscore_len bs)
  underscore [] = inl refl
  underscore (b ∷ bs) = underscore_by b bs (is_ascii_alphanumeric b) refl (word_rest bs)

-- and no longer one stands there
mutual
  pub word_rest_len-ge : (front rest : List ℕ) → IsWordRest front → length front ≤ word_rest_len (front ++ rest)
  word_rest_len-ge [] rest is = omega arith
  word_rest_len-ge (b ∷ front) rest (inl is) =
      let h = word_rest_len-ge front rest is.1 in
      let e : word_rest_len (b ∷ (front ++ rest)) ≡ suc (word_rest_len (front ++ rest)) =
      ap (λ (x : Bool). cond x (suc (word_rest_len (front ++ rest))) (cond (eqb b 95) (underscore_len (front ++ rest)) 0)) is.0 in
      omega arith
  word_rest_len-ge (b ∷ front) rest (inr is) =
      let h = underscore_len-ge front rest is.1 in
      let e : word_rest_len (b ∷ (front ++ rest)) ≡ underscore_len (front ++ rest) =
      ap (λ (x : ℕ). cond (is_ascii_alphanumeric x) (suc (word_rest_len (front ++ rest))) (cond (eqb x 95) (underscore_len (front ++ rest)) 0)) is.0 in
      omega arith

  underscore_len-ge : (front rest : List ℕ) → IsAfterUnderscore front → suc (length front) ≤ underscore_len (front ++ rest)
  underscore_len-ge [] rest is = absurd is
  underscore_len-ge (b ∷ front) rest is =
      let h = word_rest_len-ge front rest is.1 in
      let e : underscore_len (b ∷ (front ++ rest)) ≡ suc (suc (word_rest_len (front ++ rest))) = ap (λ (x : Bool). cond x (suc (suc (word_rest_len (front ++ rest)))) 0) is.0 in
      omega arith

-- ---- lines

pub record Line (bs : List ℕ) (n : ℕ) : Type 0 where
  pub front : List ℕ
  pub rest : List ℕ
  pub parts : bs ≡ front ++ rest
  pub len : length front ≡ n
  pub is : All (λ b. b ≢ 10) front
  pub ends : EndsLine rest

line_by : (b : ℕ) (bs : List ℕ) (e : Bool) → eqb b 10 ≡ e → Line bs (line_len bs) → Line (b ∷ bs) (cond e 0 (suc (line_len bs)))
line_by b bs true e l = record { front = []; rest = b ∷ bs; parts = refl; len = refl; is = All-nil (λ (x : ℕ). x ≢ 10); ends = eqb-true b 10 e }
line_by b bs false e l =
    record { front = b ∷ l.front; rest = l.rest; parts = ap (λ (x : List ℕ). b ∷ x) l.parts; len = ap suc l.len; is = All-cons (λ (x : ℕ). x ≢ 10) b l.front (eqb-false b 10 e) l.is; ends = l.ends }

pub line : (bs : List ℕ) → Line bs (line_len bs)
line [] = record { front = []; rest = []; parts = refl; len = refl; is = All-nil (λ (x : ℕ). x ≢ 10); ends = tt }
line (b ∷ bs) = line_by b bs (eqb b 10) refl (line bs)
