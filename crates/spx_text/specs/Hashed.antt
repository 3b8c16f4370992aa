-- What a hasher is fed of a text.
use Rattle.std.specs.Prelude.{ℕ, ◌*◌, ◌/◌, List, [], ◌∷◌, ◌++◌, length, drop}
use Rattle.std.specs.Simd.{first_chunks}

-- the bytes in pieces of so many, and then what is left, which is shorter
abbrev pub pieces : ℕ → List ℕ → List (List ℕ)
pieces size bytes = first_chunks size (length bytes / size) bytes ++ drop (length bytes / size * size) bytes ∷ []
