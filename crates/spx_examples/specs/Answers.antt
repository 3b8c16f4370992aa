-- Two files that words name.
use Rattle.std.specs.Prelude.{ℕ, List, [], ◌∷◌, Option, None, codes}

-- the names of the program and of its inputs
abbrev pub program_file : List ℕ
program_file = codes "a"

-- the second of them
abbrev pub inputs_file : List ℕ
inputs_file = codes "b"

-- both, in the order of the words
abbrev pub both_files : List (List ℕ)
both_files = program_file ∷ inputs_file ∷ []

-- of no file the bytes are known
abbrev pub nothing_known : List ℕ → Option (List ℕ)
nothing_known name = None
