-- Where a relation of flow and a declared relation differ, pair by pair.
use Rattle.std.specs.Prelude.{ℕ, ◌+◌, Bool, true, false, List, [], ◌∷◌, ◌++◌, Option, Some, None}
use Rattle.std.specs.Option.{option_to_list}
use Rattle.spx_text.specs.declared.place.Place.{Place}
use Rattle.spx_core.specs.declared.entity.VarId.{VarId}
use Rattle.spx_rows.specs.Relations.{Matrix}
use Rattle.spx_derives.specs.declared.finding.FlowFinding.{FlowFinding}
use Rattle.spx_derives.specs.declared.finding.FlowFinding.TheVariants as finding
use Rattle.spx_derives.specs.Tables.{pair_in}

-- what is wrong with a pair that flows, or not, and is declared, or not
abbrev pub difference : (flows declared : Bool) → Place → VarId → VarId → Option FlowFinding
difference true false place x y = Some (finding.Missing place x y)
difference false true place x y = Some (finding.Unused place x y)
difference true true place x y = None
difference false false place x y = None

-- the differences from the variables at u and on to the export at w
abbrev pub differences_to : (flows declared : Matrix) → ℕ → VarId → Place → ℕ → List VarId → List FlowFinding
differences_to flows declared w y place u [] = []
differences_to flows declared w y place u (x ∷ xs) = option_to_list (difference (pair_in flows u w) (pair_in declared u w) place x y) ++ differences_to flows declared w y place (u + 1) xs

abbrev pub differences_at : (flows declared : Matrix) → ℕ → VarId → Option Place → List VarId → List FlowFinding
differences_at flows declared w y None xs = []
differences_at flows declared w y (Some place) xs = differences_to flows declared w y place 0 xs

-- the differences from these variables to those at w and on that are exports, at the places that the table has
abbrev pub differences_from : (flows declared : Matrix) → (VarId → Option Place) → List VarId → ℕ → List VarId → List FlowFinding
differences_from flows declared place_of xs w [] = []
differences_from flows declared place_of xs w (y ∷ ys) = differences_at flows declared w y (place_of y) xs ++ differences_from flows declared place_of xs (w + 1) ys
