-- How much of the outside a program takes in.
use Rattle.std.specs.Prelude.{ℕ}

-- the most bytes of one file
abbrev pub most_bytes : ℕ
most_bytes = 4194304
