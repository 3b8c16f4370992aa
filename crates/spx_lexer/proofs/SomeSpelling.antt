-- A text has tokens, or it is stopped somewhere, or it has too many tokens before that.
use Rattle.std.proofs.Common.{◌≡◌, ◌⊎◌, inl, inr, ℕ, zero, suc, ◌≤◌, ◌<◌, Bool, true, false, List, [], ◌∷◌, length, nat_lt, Option, Some, None, Result, Ok, Err, refl, sym, ap, subst, arith, length-append}
use Rattle.spx_text.specs.declared.place.Place.{Place}
use Rattle.spx_tree.specs.declared.token.Token.{Token}
use Rattle.spx_tree.specs.Spells.{Spells}
use Rattle.spx_tree.specs.Stops.{Cause as Reason, StopsAt}
use Rattle.std.proofs.lemmas.Bool.Decides.{nat_tests}
use Rattle.spx_tree.proofs.Shapes.{stands_some}
use Rattle.spx_lexer.specs.declared.lexer.pieces.Piece.{Piece}
use Rattle.spx_lexer.specs.declared.lexer.pieces.Cause.{Cause}
use Rattle.spx_lexer.specs.declared.lexer.positions.Position.{Position}
use Rattle.spx_lexer.specs.Faults.{reason_of}
use Rattle.spx_tree.specs.Stops.{HasMoreTokens, most_tokens}
use Rattle.spx_lexer.specs.Pieces.{piece_at}
use Rattle.spx_lexer.proofs.Found.{role_of, Found, Finds}
use Rattle.spx_lexer.proofs.Finds.{piece_at-finds}
use Rattle.spx_lexer.specs.Reading.{HasRead, IsEnd}
use Rattle.spx_lexer.proofs.Reading.{read_none, read_more, read_all, read_stop}
use Rattle.spx_lexer.proofs.TokenCount.{few_at_end, few_at_stop}

-- the text has tokens, or it is stopped, or too many tokens come before that
abbrev pub IsDecided : ℕ → List ℕ → Type 0
IsDecided file source =
    ((tokens : List Token) × Spells file source tokens × (¬ HasMoreTokens most_tokens file source))
    ⊎ (((reason : Reason) × (place : Place) × StopsAt file source reason place × (¬ HasMoreTokens most_tokens file source)) ⊎ HasMoreTokens most_tokens file source)

-- too many tokens are read
crowded : (file : ℕ) (source : List ℕ) (tokens : List Token) (at : Position) (rest : List ℕ) → HasRead file source tokens at rest → most_tokens < length tokens → HasMoreTokens most_tokens file source
crowded file source tokens at rest h many = record { parts = h.parts; rest = rest; whole = h.whole; stand = h.stand; many = omega (arith, many, ap length h.are) }

above : (n : ℕ) → nat_lt most_tokens n ≡ true → most_tokens < n
above n h = grind (arith, nat_tests)

not_above : (n : ℕ) → nat_lt most_tokens n ≡ false → n ≤ most_tokens
not_above n h = grind (arith, nat_tests)

-- the text is read to its end
at_end : (file : ℕ) (source : List ℕ) (tokens : List Token) (at : Position) (rest : List ℕ) → HasRead file source tokens at rest → length rest ≤ 0 → (b : Bool) → nat_lt most_tokens (length tokens) ≡ b → IsDecided file source
at_end file source tokens at rest h none true e = inr (inr (crowded file source tokens at rest h (above (length tokens) e)))
at_end file source tokens at rest h none false e = inl (tokens, read_all file source tokens at rest h none, few_at_end most_tokens file source tokens at rest h (not_above (length tokens) e) none)

-- the text is stopped
at_stop : (file : ℕ) (source : List ℕ) (tokens : List Token) (at : Position) (bytes : List ℕ) (c : Cause) → HasRead file source tokens at bytes → 0 < length bytes → Err c ≡ piece_at at.marked bytes
    → (b : Bool) → nat_lt most_tokens (length tokens) ≡ b → IsDecided file source
at_stop file source tokens at bytes c h some found true e = inr (inr (crowded file source tokens at bytes h (above (length tokens) e)))
at_stop file source tokens at bytes c h some found false e =
    inr (inl (reason_of c, at.place, read_stop file source tokens at bytes c h some found, few_at_stop most_tokens file source tokens at bytes c h (not_above (length tokens) e) some found))

-- ---- each text is read up to a place where it ends or is stopped

pub record ReadToEnd (file : ℕ) (source : List ℕ) : Type 0 where
  pub tokens : List Token
  pub at : Position
  pub rest : List ℕ
  pub stop : Option Cause
  pub read : HasRead file source tokens at rest
  pub end : IsEnd stop at.marked rest

-- it is, once it is read up to a place with at most so many bytes after it
abbrev EndsWithin : ℕ → List ℕ → ℕ → Type 0
EndsWithin file source most = (tokens : List Token) (at : Position) (rest : List ℕ) → HasRead file source tokens at rest → length rest ≤ most → ReadToEnd file source

-- less is left after what is found
less_left : (m : Bool) (bytes : List ℕ) (p : Piece) (f : Found m bytes p) → length f.rest < length bytes
less_left m bytes p f = omega (arith, ap length f.parts, length-append f.front f.rest, stands_some m (role_of p.what) f.front f.rest f.stands)

-- a part is read, or the text is stopped
end_by : (file : ℕ) (source : List ℕ) (most : ℕ) → EndsWithin file source most → (tokens : List Token) (at : Position) (bytes : List ℕ) → HasRead file source tokens at bytes → 0 < length bytes → length bytes ≤ suc most
    → (found : Result Piece Cause) → found ≡ piece_at at.marked bytes → ReadToEnd file source
end_by file source most next tokens at bytes h some few (Ok p) e =
    let f : Found at.marked bytes p = subst (Finds at.marked bytes) (sym e) (piece_at-finds at.marked bytes some) in
    next _ _ f.rest (read_more file source tokens at bytes p h f) (omega (arith, less_left at.marked bytes p f))
end_by file source most next tokens at bytes h some few (Err c) e = record { tokens = tokens; at = at; rest = bytes; stop = Some c; read = h; end = (some, e) }

ends_within : (file : ℕ) (source : List ℕ) (most : ℕ) → EndsWithin file source most
ends_within file source zero tokens at rest h few = record { tokens = tokens; at = at; rest = rest; stop = None; read = h; end = few }
ends_within file source (suc most) tokens at [] h few = record { tokens = tokens; at = at; rest = []; stop = None; read = h; end = omega arith }
ends_within file source (suc most) tokens at (b ∷ bs) h few = end_by file source most (ends_within file source most) tokens at (b ∷ bs) h (omega arith) few (piece_at at.marked (b ∷ bs)) refl

pub read_to_end : (file : ℕ) (source : List ℕ) → ReadToEnd file source
read_to_end file source = ends_within file source (length source) [] _ source (read_none file source [] refl) (omega arith)

-- ---- so it is decided

decided : (file : ℕ) (source : List ℕ) (tokens : List Token) (at : Position) (rest : List ℕ) (stop : Option Cause) → HasRead file source tokens at rest → IsEnd stop at.marked rest → IsDecided file source
decided file source tokens at rest None h end = at_end file source tokens at rest h end (nat_lt most_tokens (length tokens)) refl
decided file source tokens at rest (Some c) h end = at_stop file source tokens at rest c h end.0 end.1 (nat_lt most_tokens (length tokens)) refl

pub some_spelling : (file : ℕ) (source : List ℕ) → IsDecided file source
some_spelling file source = let r = read_to_end file source in decided file source r.tokens r.at r.rest r.stop r.read r.end
