-- The lexer's position in a text.
use Rattle.std.specs.Prelude.{ℕ, ◌+◌, Bool, true, false, List, [], ◌∷◌}
use Rattle.spx_text.specs.declared.place.Place.{Place}
use Rattle.spx_tree.specs.declared.token.Token.{Token}
use Rattle.spx_lexer.specs.declared.lexer.pieces.What.{What}
use Rattle.spx_lexer.specs.declared.lexer.pieces.What.TheVariants as what
use Rattle.spx_lexer.specs.declared.lexer.pieces.Piece.{Piece}
use Rattle.spx_lexer.specs.declared.lexer.positions.Position.{Position}

abbrev pub place_after : What → Place → ℕ → Place
place_after what.LineEnd place len = record { file = place.file; line = place.line + 1; column = 1 }
place_after _ place len = record { file = place.file; line = place.line; column = place.column + len }

abbrev pub marked_after : What → Bool → Bool
marked_after what.LineEnd marked = false
marked_after what.Head marked = true
marked_after _ marked = marked

abbrev pub after : Position → Piece → Position
after at piece = record { offset = at.offset + piece.len; place = place_after piece.what at.place piece.len; marked = marked_after piece.what at.marked }

abbrev pub tokens_by : What → Position → ℕ → List Token
tokens_by (what.Lexeme kind number) at len =
    record { kind = kind; number = number; first = at.offset; after = at.offset + len; place = at.place; marked = at.marked } ∷ []
tokens_by _ at len = []

-- the token that a piece is, if it is one
abbrev pub tokens_at : Position → Piece → List Token
tokens_at at piece = tokens_by piece.what at piece.len

-- how many tokens a piece is
abbrev pub count_of : What → ℕ
count_of (what.Lexeme kind number) = 1
count_of _ = 0
