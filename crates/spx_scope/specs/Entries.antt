-- The entries of a map as declarations.
use Rattle.std.specs.Prelude.{ℕ, List, Option, map}
use Rattle.spx_core.specs.declared.entity.Entity.{Entity}
use Rattle.spx_core.specs.Regions.{Declaration, Region}

abbrev pub declaration : List ℕ × Option Entity → Declaration
declaration entry = record { word = entry.0; entity = entry.1 }

abbrev pub declarations : List (List ℕ × Option Entity) → Region
declarations entries = map declaration entries
