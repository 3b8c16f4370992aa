-- Variables one after another.
use Rattle.std.specs.Prelude.{ℕ, List, map}
use Rattle.std.specs.List.{range_with_len}
use Rattle.spx_core.specs.declared.entity.VarId.{VarId}

abbrev pub id_at : ℕ → VarId
id_at position = record { 0 = position }

-- so many variables, from this position on
abbrev pub ids_from : ℕ → ℕ → List VarId
ids_from first count = map id_at (range_with_len first count)
