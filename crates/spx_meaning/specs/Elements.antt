-- How many array elements the variables of a subprogram have, set or not. A run of the subprogram has a limit on them.
use Rattle.std.specs.Prelude.{ℕ, suc, ◌+◌, ◌*◌, Bool, nat_lt, List, [], ◌∷◌, ◌++◌, map, unwrap_or, slice_get}
use Rattle.std.specs.List.{sum}
use Rattle.spx_core.specs.declared.entity.Subtype.{Subtype}
use Rattle.spx_core.specs.declared.entity.TypeId.{TypeId}
use Rattle.spx_core.specs.declared.entity.VarId.{VarId}
use Rattle.spx_core.specs.declared.program.Field.{Field}
use Rattle.spx_core.specs.declared.program.Program.{Program}
use Rattle.spx_core.specs.declared.program.TypeForm.{TypeForm}
use Rattle.spx_core.specs.declared.program.TypeForm.TheVariants.{Scalar, Array, Record}
use Rattle.spx_core.specs.declared.program.TypeRow.{TypeRow}
use Rattle.spx_core.specs.declared.subprogram.Sub.{Sub}
use Rattle.spx_term.specs.Values.{count}
use Rattle.spx_meaning.specs.Stores.{type_of}

-- the number for the type with this id, where there is one
abbrev pub elements_at : List ℕ → TypeId → ℕ
elements_at counts id = unwrap_or (slice_get counts id.0) 0

-- The elements in a value that is made of this, where those of the types before it are known. The elements of an array count, and so do theirs.
abbrev pub elements_in : List ℕ → TypeForm → ℕ
elements_in counts Scalar = 0
elements_in counts (Array index element) = count index.first index.last * suc (elements_at counts element.base.id)
elements_in counts (Record fields) = sum (map (λ (field : Field). elements_at counts field.subtype.base.id) fields)

-- those in a value of each type of a table, after the types before it
abbrev pub elements_after : List ℕ → List TypeRow → List ℕ
elements_after counts [] = counts
elements_after counts (row ∷ rows) = elements_after (counts ++ elements_in counts row.form ∷ []) rows

-- those of all variables of a subprogram
abbrev pub elements_of : Program → Sub → ℕ
elements_of p sub = sum (map (λ (v : VarId). elements_at (elements_after [] p.types) (type_of p v).base.id) sub.vars)

-- there are more than a run may have
abbrev pub has_many_elements : Program → Sub → Bool
has_many_elements p sub = nat_lt 1000000 (elements_of p sub)
