-- Texts that are no file, each stopped by a number or by its tokens, and an expression for which there may be too few levels.
use Rattle.std.specs.Prelude.{ℕ, ◌-◌, ◌^◌, pos, List, [], ◌∷◌, ◌++◌, codes}
use Rattle.spx_tree.specs.declared.token.Kind.TheVariants as kind
use Rattle.spx_tree.specs.declared.token.Token.{Token}
use Rattle.spx_examples.specs.Example.{in_code}

-- a letter comes at once after a number
abbrev pub spoiled_number : List ℕ
spoiled_number = codes "X := 12X;"

-- a number is 2**127
abbrev pub wide_number : List ℕ
wide_number = codes "X := 170141183460469231731687303715884105728;"

-- one less, the greatest number that a text may have
abbrev pub widest_number : List ℕ
widest_number = codes "170141183460469231731687303715884105727"

-- its token
abbrev pub widest_tokens : List Token
widest_tokens = in_code kind.Number (pos (2 ^ 127 - 1)) 0 39 1 1 ∷ []

-- no name comes after `procedure`
abbrev pub unnamed : List ℕ
unnamed = codes "procedure is"

-- its tokens
abbrev pub unnamed_tokens : List Token
unnamed_tokens = in_code kind.Procedure (pos 0) 0 9 1 1 ∷ in_code kind.Is (pos 0) 10 12 1 11 ∷ []

-- nothing comes after `procedure`, at the end of a line
abbrev pub cut_short : List ℕ
cut_short = codes "procedure" ++ 10 ∷ []

-- its token
abbrev pub cut_short_tokens : List Token
cut_short_tokens = in_code kind.Procedure (pos 0) 0 9 1 1 ∷ []

-- an expression of one level
abbrev pub sum : List ℕ
sum = codes "X + 1"

-- its tokens
abbrev pub sum_tokens : List Token
sum_tokens = in_code kind.Identifier (pos 0) 0 1 1 1 ∷ in_code kind.Plus (pos 0) 2 3 1 3 ∷ in_code kind.Number (pos 1) 4 5 1 5 ∷ []
