-- Variables by their position in a set, and matrices over these positions.
use Rattle.std.specs.Prelude.{◌≡◌, ◌==◌, ℕ, Bool, true, false, ◌&&◌, ◌||◌, Some, List, slice_get}
use Rattle.std.specs.List.{IsDistinct, filter_map}
use Rattle.spx_core.specs.declared.entity.VarId.{VarId}
use Rattle.spx_core.specs.Mirror.VarSets.{holds, place_in_set}
use Rattle.spx_core.specs.Effects.{Effect, Read, nothing, assign, next, choose, observe, repeat, count, endless, exit, sets, reads}
use Rattle.spx_lower.specs.Meaning.{Test}
use Rattle.spx_passes.specs.declared.frame.Frame.{Frame}

-- the variable at position k of the set, from 0
abbrev pub Stands : List ℕ → ℕ → VarId → Type 0
Stands set k v = slice_get set k ≡ Some v.0

-- ---- exits

-- one of the statements is an exit from the loop around them, or, where `deep`, from one of the loops in them
abbrev pub exits_in : Bool → Effect → Bool
exits_in deep nothing = false
exits_in deep (assign target values place) = false
exits_in deep (next a b) = exits_in deep a || exits_in deep b
exits_in deep (choose tests a b place) = exits_in deep a || exits_in deep b
exits_in deep (observe values) = false
exits_in deep (repeat tests body place) = deep && exits_in deep body
exits_in deep (count parameter bounds body place) = deep && exits_in deep body
exits_in deep (endless body) = deep && exits_in deep body
exits_in deep (exit tests a b place) = true

-- the frame has each variable that the statements set and read, and has exits where they have some
pub record Covers (frame : Frame) (e : Effect) : Type 0 where
  pub once : IsDistinct ◌==◌ frame.vars
  pub targets : (v : VarId) → sets v e ≡ true → holds frame.vars v ≡ true
  pub read : (v : VarId) → reads v e ≡ true → holds frame.vars v ≡ true
  pub exits : exits_in true e ≡ true → frame.has_exits ≡ true

-- what covers an arm: its statements, and whether it is an exit
pub record CoversArm (frame : Frame) (arm : Test) : Type 0 where
  pub body : Covers frame arm.done
  pub exits : arm.is_exit ≡ true → frame.has_exits ≡ true

-- ---- what is read

-- the positions of the variables that are read, in the order of the text
abbrev pub positions_at : List ℕ → List Read → List ℕ
positions_at set reads = filter_map (λ (r : Read). place_in_set set r.1) reads
