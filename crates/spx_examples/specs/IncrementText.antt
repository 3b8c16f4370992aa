-- The text of examples/inc.adb, and its tokens.
use Rattle.std.specs.Prelude.{ℕ, pos, List, [], ◌∷◌, ◌++◌, codes}
use Rattle.spx_tree.specs.declared.token.Kind.TheVariants as kind
use Rattle.spx_tree.specs.declared.token.Token.{Token}
use Rattle.spx_examples.specs.Example.{in_code, in_annotation}

-- a line with its end
abbrev pub ended : List ℕ → List ℕ
ended line = line ++ 10 ∷ []

-- the bytes of the file, line by line
abbrev pub inc_bytes : List ℕ
inc_bytes =
    ended (codes "procedure Inc (X : in out Integer)")
    ++ ended (codes "--# derives X from X;")
    ++ ended (codes "--# pre X < Integer'Last;")
    ++ ended (codes "is")
    ++ ended (codes "begin")
    ++ ended (codes "   X := X + 1;")
    ++ ended (codes "end Inc;")

-- `procedure Inc (X : in out Integer)`
abbrev pub heading_tokens : List Token
heading_tokens =
    in_code kind.Procedure (pos 0) 0 9 1 1
    ∷ in_code kind.Identifier (pos 0) 10 13 1 11
    ∷ in_code kind.LeftParenthesis (pos 0) 14 15 1 15
    ∷ in_code kind.Identifier (pos 0) 15 16 1 16
    ∷ in_code kind.Colon (pos 0) 17 18 1 18
    ∷ in_code kind.In (pos 0) 19 21 1 20
    ∷ in_code kind.Out (pos 0) 22 25 1 23
    ∷ in_code kind.Identifier (pos 0) 26 33 1 27
    ∷ in_code kind.RightParenthesis (pos 0) 33 34 1 34
    ∷ []

-- `--# derives X from X;`
abbrev pub derives_tokens : List Token
derives_tokens =
    in_annotation kind.Derives (pos 0) 39 46 2 5
    ∷ in_annotation kind.Identifier (pos 0) 47 48 2 13
    ∷ in_annotation kind.From (pos 0) 49 53 2 15
    ∷ in_annotation kind.Identifier (pos 0) 54 55 2 20
    ∷ in_annotation kind.Semicolon (pos 0) 55 56 2 21
    ∷ []

-- `--# pre X < Integer'Last;`
abbrev pub pre_tokens : List Token
pre_tokens =
    in_annotation kind.Pre (pos 0) 61 64 3 5
    ∷ in_annotation kind.Identifier (pos 0) 65 66 3 9
    ∷ in_annotation kind.Less (pos 0) 67 68 3 11
    ∷ in_annotation kind.Identifier (pos 0) 69 76 3 13
    ∷ in_annotation kind.Apostrophe (pos 0) 76 77 3 20
    ∷ in_annotation kind.Identifier (pos 0) 77 81 3 21
    ∷ in_annotation kind.Semicolon (pos 0) 81 82 3 25
    ∷ []

-- `is`, `begin`, `X := X + 1;` and `end Inc;`
abbrev pub body_tokens : List Token
body_tokens =
    in_code kind.Is (pos 0) 83 85 4 1
    ∷ in_code kind.Begin (pos 0) 86 91 5 1
    ∷ in_code kind.Identifier (pos 0) 95 96 6 4
    ∷ in_code kind.Assignment (pos 0) 97 99 6 6
    ∷ in_code kind.Identifier (pos 0) 100 101 6 9
    ∷ in_code kind.Plus (pos 0) 102 103 6 11
    ∷ in_code kind.Number (pos 1) 104 105 6 13
    ∷ in_code kind.Semicolon (pos 0) 105 106 6 14
    ∷ in_code kind.End (pos 0) 107 110 7 1
    ∷ in_code kind.Identifier (pos 0) 111 114 7 5
    ∷ in_code kind.Semicolon (pos 0) 114 115 7 8
    ∷ []

-- all of them: what each is and the value of a number, its first byte and the first one after it, its line and column
abbrev pub inc_tokens : List Token
inc_tokens = heading_tokens ++ derives_tokens ++ pre_tokens ++ body_tokens
