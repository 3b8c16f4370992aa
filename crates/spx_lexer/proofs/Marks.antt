-- A delimiter that is found, or a byte that begins nothing.
use Rattle.std.proofs.Common.{◌≡◌, ℕ, suc, Bool, false, List, [], ◌∷◌, ◌++◌, length, Option, Some, None, refl, sym, ap, subst, ◌∙◌, arith, eqb, append_assoc, ℤ, pos}
use Rattle.std.specs.Prelude.{◌&&◌}
use Rattle.std.specs.Char.{is_ascii_digit, is_ascii_alphabetic}
use Rattle.std.proofs.lemmas.Bool.{both_ways}
use Rattle.spx_tree.specs.declared.token.Kind.{Kind}
use Rattle.spx_tree.specs.Lexemes.{kind_of, delimiters, IsLexeme, word, numeral, delimiter, IsMaximal}
use Rattle.spx_tree.specs.Places.{is_line_end}
use Rattle.spx_tree.specs.Spells.{Role, lexeme, is_separator, BeginsWith, Stands}
use Rattle.spx_tree.proofs.Numbers.{number_digit}
use Rattle.spx_tree.proofs.OnlyDigits.{delimiter_no_number}
use Rattle.spx_tree.proofs.Shapes.{other, shape, begins_hyphen, shape_of, stands_shape, stands_some, delimiter_mark}
use Rattle.spx_lexer.specs.declared.lexer.pieces.What.TheVariants as what
use Rattle.spx_lexer.specs.Pieces.{delimiter_at, piece, mark_by}
use Rattle.spx_lexer.proofs.Delimiters.{Delimiter, IsFound, len_of, delimiter_at-longest}
use Rattle.spx_lexer.proofs.Found.{Found, Finds, nil_by_len, head_is, tail_is}

delimiter_maximal : (m : Bool) (a : ℕ) (front rest : List ℕ) (k : Kind) → kind_of (delimiters m) (a ∷ front) ≡ Some k → len_of (delimiter_at m a (front ++ rest)) ≡ suc (length front) → IsMaximal m (a ∷ front) rest
delimiter_maximal m a front rest k e len more following l n f (word w g h) = absurd (both_ways (is_ascii_alphabetic a) (delimiter_mark m a front k e).no_letter w.0)
delimiter_maximal m a front rest k e len more following l n f (numeral v d g h) = absurd (both_ways (is_ascii_digit a) (delimiter_mark m a front k e).no_digit (number_digit a (front ++ more) v d))
delimiter_maximal m a front rest k e len more following l n f (delimiter g h) =
    let le = delimiter_at-longest m a (front ++ more) following l g in
    let same : (front ++ more) ++ following ≡ front ++ rest = append_assoc front more following ∙ ap (λ (x : List ℕ). front ++ x) (sym f) in
    nil_by_len front more (omega (arith, ap (λ (x : List ℕ). len_of (delimiter_at m a x)) same))

lone_hyphen : (a : ℕ) (bs front rest : List ℕ) → (eqb a 45 && begins_hyphen bs) ≡ false → bs ≡ front ++ rest → a ∷ front ≡ 45 ∷ [] → BeginsWith 45 rest → ⊥
lone_hyphen a bs [] [] nh f e h = h
lone_hyphen a bs [] (c ∷ rest) nh f e h =
    both_ways (eqb a 45 && begins_hyphen bs) nh (ap (λ (x : ℕ). eqb x 45 && begins_hyphen bs) (head_is a 45 [] [] e) ∙ ap begins_hyphen f ∙ ap (λ (x : ℕ). eqb x 45) h)
lone_hyphen a bs (x ∷ front) rest nh f e h = absurd cc

delimiter_stands : (m : Bool) (a : ℕ) (bs : List ℕ) (k : Kind) (len : ℕ) → (eqb a 45 && begins_hyphen bs) ≡ false → delimiter_at m a bs ≡ Some (k, len) → Delimiter m a bs k len → Found m (a ∷ bs) (piece (what.Lexeme k (pos 0)) len)
delimiter_stands m a bs k len nh e d =
    let n : len_of (delimiter_at m a (d.front ++ d.rest)) ≡ suc (length d.front) = ap (λ (x : List ℕ). len_of (delimiter_at m a x)) (sym d.parts) ∙ ap len_of e ∙ sym d.len_is in
    record {
      front = a ∷ d.front;
      rest = d.rest;
      parts = ap (λ (x : List ℕ). a ∷ x) d.parts;
      len = d.len_is;
      stands = (delimiter d.is refl, delimiter_maximal m a d.front d.rest k d.is n, lone_hyphen a bs d.front d.rest nh d.parts);
      sound = λ f. absurd (delimiter_no_number m (a ∷ d.front) k d.is f);
    }

-- a byte that begins neither a gap nor a lexeme
pub record IsForeign (m : Bool) (a : ℕ) (bs : List ℕ) : Type 0 where
  pub no_line_end : is_line_end a ≡ false
  pub no_separator : is_separator a ≡ false
  pub no_hyphens : (eqb a 45 && begins_hyphen bs) ≡ false
  pub no_letter : is_ascii_alphabetic a ≡ false
  pub no_digit : is_ascii_digit a ≡ false
  pub no_delimiter : delimiter_at m a bs ≡ None

no_lexeme : (m : Bool) (a : ℕ) (bs : List ℕ) → IsForeign m a bs → (k : Kind) (n : ℤ) (front following : List ℕ) → bs ≡ front ++ following → IsLexeme m k n (a ∷ front) → ⊥
no_lexeme m a bs h k n front following e (word w f g) = both_ways (is_ascii_alphabetic a) h.no_letter w.0
no_lexeme m a bs h k n front following e (numeral v d f g) = both_ways (is_ascii_digit a) h.no_digit (number_digit a front v d)
no_lexeme m a bs h k n front following e (delimiter f g) =
    absurd (omega (arith, delimiter_at-longest m a front following k f, ap (λ (x : List ℕ). len_of (delimiter_at m a x)) (sym e), ap len_of h.no_delimiter))

no_lexeme_at : (m : Bool) (a : ℕ) (bs : List ℕ) → IsForeign m a bs → (k : Kind) (n : ℤ) (front following : List ℕ) → a ∷ bs ≡ front ++ following → Stands m (lexeme k n) front following → ⊥
no_lexeme_at m a bs h k n [] following e s = absurd (omega (arith, stands_some m (lexeme k n) [] following s))
no_lexeme_at m a bs h k n (c ∷ front) following e s =
    no_lexeme m a bs h k n front following (tail_is a c bs (front ++ following) e) (subst (λ (x : ℕ). IsLexeme m k n (x ∷ front)) (sym (head_is a c bs (front ++ following) e)) s.0)

foreign_shape : (m : Bool) (a : ℕ) (bs : List ℕ) → IsForeign m a bs → shape (a ∷ bs) ≡ other
foreign_shape m a bs h = rw (h.no_line_end, h.no_separator, h.no_hyphens) refl

nothing_stands : (m : Bool) (a : ℕ) (bs : List ℕ) → IsForeign m a bs → (role : Role) (front following : List ℕ) → a ∷ bs ≡ front ++ following → Stands m role front following → ⊥
nothing_stands m a bs h (lexeme k n) front following e s = no_lexeme_at m a bs h k n front following e s
nothing_stands m a bs h role front following e s = let f : other ≡ shape_of role = sym (foreign_shape m a bs h) ∙ ap shape e ∙ stands_shape m role front following s in absurd cc

pub mark_finds : (m : Bool) (a : ℕ) (bs : List ℕ) (o : Option (Kind × ℕ)) → (delimiter_at m a bs ≡ None → IsForeign m a bs) → (eqb a 45 && begins_hyphen bs) ≡ false → delimiter_at m a bs ≡ o → IsFound m a bs o → Finds m (a ∷ bs) (mark_by o)
mark_finds m a bs None foreign nh e d = (omega arith, nothing_stands m a bs (foreign e))
mark_finds m a bs (Some found) foreign nh e d = delimiter_stands m a bs found.0 found.1 nh e d
