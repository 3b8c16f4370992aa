-- What it means that the lexer finds what stands at a place.
use Rattle.std.proofs.Common.{◌≡◌, ℕ, ◌≤◌, Bool, true, false, List, [], ◌∷◌, ◌++◌, length, Result, Ok, Err, refl, ap, arith, eqb, length-append}
use Rattle.std.proofs.lemmas.Bool.{both_ways}
use Rattle.spx_tree.specs.Spells.{Role, line_end, separator, comment, head, lexeme, BeginsWith, Stands, IsSound}
use Rattle.spx_tree.specs.Stops.{IsStopped}
use Rattle.spx_lexer.specs.declared.lexer.pieces.What.{What}
use Rattle.spx_lexer.specs.declared.lexer.pieces.What.TheVariants as what
use Rattle.spx_lexer.specs.declared.lexer.pieces.Piece.{Piece}
use Rattle.spx_lexer.specs.declared.lexer.pieces.Cause.{Cause}
use Rattle.spx_lexer.specs.Faults.{reason_of}

abbrev pub role_of : What → Role
role_of what.LineEnd = line_end
role_of what.Separator = separator
role_of what.Comment = comment
role_of what.Head = head
role_of (what.Lexeme kind number) = lexeme kind number

pub record Found (m : Bool) (bytes : List ℕ) (p : Piece) : Type 0 where
  pub front : List ℕ
  pub rest : List ℕ
  pub parts : bytes ≡ front ++ rest
  pub len : length front ≡ p.len
  pub stands : Stands m (role_of p.what) front rest
  pub sound : IsSound (role_of p.what) rest

abbrev pub Finds : Bool → List ℕ → Result Piece Cause → Type 0
Finds m bytes (Ok p) = Found m bytes p
Finds m bytes (Err c) = IsStopped (reason_of c) m bytes

pub nil_by_len : (a b : List ℕ) → length (a ++ b) ≤ length a → b ≡ []
nil_by_len a [] h = refl
nil_by_len a (x ∷ b) h = absurd (omega (arith, length-append a (x ∷ b)))

pub head_is : (x y : ℕ) (xs ys : List ℕ) → x ∷ xs ≡ y ∷ ys → x ≡ y
head_is x y xs ys e = cc

pub not_hyphen : (b : ℕ) (bs rest : List ℕ) → eqb b 45 ≡ false → b ∷ bs ≡ 45 ∷ [] → BeginsWith 45 rest → ⊥
not_hyphen b bs rest h e f = let g : eqb b 45 ≡ true = ap (λ (x : ℕ). eqb x 45) (head_is b 45 bs [] e) in both_ways (eqb b 45) h g

pub tail_is : (x y : ℕ) (xs ys : List ℕ) → x ∷ xs ≡ y ∷ ys → xs ≡ ys
tail_is x y xs ys e = cc
