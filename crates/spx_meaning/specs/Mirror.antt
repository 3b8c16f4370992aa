-- What only the code needs, in terms of the definitions. No claim on runs rests on these.
use Rattle.std.specs.Prelude.{ℕ, min, [], map, take}
use Rattle.spx_core.specs.declared.program.Program.{Program}
use Rattle.spx_term.specs.Values.{Types}
use Rattle.spx_term.specs.Tables.{shape_at, shapes_from}
use Rattle.spx_meaning.specs.Stores.{row_in}

-- what the values of the types before a position of the table look like; the others look like the number 0
unfoldable pub types_before : Program → ℕ → Types
types_before p size = shape_at (shapes_from [] (take size (map row_in p.types)))

-- a number of elements, counted up to one past the most
abbrev pub capped : ℕ → ℕ
capped n = min n 1000001
