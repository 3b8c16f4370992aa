-- Texts of a few bytes: one with its tokens, and one that is stopped.
use Rattle.std.specs.Prelude.{ℕ, true, false, List, [], ◌∷◌, ◌++◌, ℤ, pos, codes}
use Rattle.spx_text.specs.declared.place.Place.{Place}
use Rattle.spx_tree.specs.declared.token.Kind.{Kind}
use Rattle.spx_tree.specs.declared.token.Kind.TheVariants as kind
use Rattle.spx_tree.specs.declared.token.Token.{Token}

-- a line that ends with an annotation and a comment, and a word on the next one
abbrev pub line : List ℕ
line = codes "X:=X --# pre X<=1; -- #" ++ 10 ∷ codes "end"

-- a token of code: its kind and number, its first byte, the first one after it, its line and column
abbrev pub in_code : Kind → ℤ → ℕ → ℕ → ℕ → ℕ → Token
in_code what number first after line column = record { kind = what; number = number; first = first; after = after; place = record { file = 0; line = line; column = column }; marked = false }

-- the same of a token of annotation text
abbrev pub in_annotation : Kind → ℤ → ℕ → ℕ → ℕ → ℕ → Token
in_annotation what number first after line column = record { kind = what; number = number; first = first; after = after; place = record { file = 0; line = line; column = column }; marked = true }

abbrev pub line_tokens : List Token
line_tokens =
    in_code kind.Identifier (pos 0) 0 1 1 1
    ∷ in_code kind.Assignment (pos 0) 1 3 1 2
    ∷ in_code kind.Identifier (pos 0) 3 4 1 4
    ∷ in_annotation kind.Pre (pos 0) 9 12 1 10
    ∷ in_annotation kind.Identifier (pos 0) 13 14 1 14
    ∷ in_annotation kind.LessOrEqual (pos 0) 14 16 1 15
    ∷ in_annotation kind.Number (pos 1) 16 17 1 17
    ∷ in_annotation kind.Semicolon (pos 0) 17 18 1 18
    ∷ in_code kind.End (pos 0) 24 27 2 1
    ∷ []

-- no word has two underscores in a row, and no lexeme begins with one
abbrev pub stopped_line : List ℕ
stopped_line = codes "A__B"

-- the place of the first
abbrev pub stop : Place
stop = record { file = 0; line = 1; column = 2 }
