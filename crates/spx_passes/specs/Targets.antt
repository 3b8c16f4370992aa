-- The variables that arms set, and the positions of variables.
use Rattle.std.specs.Prelude.{ℕ, ◌==◌, Bool, ◌||◌, List, Option, Some, None, position}
use Rattle.std.specs.List.{filter_map, list_any}
use Rattle.spx_core.specs.declared.entity.VarId.{VarId}
use Rattle.spx_core.specs.Effects.{sets}
use Rattle.spx_lower.specs.declared.item.Arm.{Arm}
use Rattle.spx_lower.specs.declared.item.Head.{Head}
use Rattle.spx_lower.specs.declared.item.Head.TheVariants as head
use Rattle.spx_lower.specs.Meaning.{arm_of}
use Rattle.spx_passes.specs.Positions.{exits_in}

-- variables, by their position in the program's list, in the order in which they were found
pub record Numbers : Type 0 where
  pub keys : List ℕ

-- one of the arms sets the variable
abbrev pub arms_set : VarId → List Arm → Bool
arms_set v arms = list_any (λ arm. sets v (arm_of arm).done) arms

-- one of the arms is an exit, or has one
abbrev pub arms_exit : Bool → List Arm → Bool
arms_exit deep arms = list_any (λ arm. (arm_of arm).is_exit || exits_in deep (arm_of arm).done) arms

abbrev pub parameter_of : Head → Option VarId
parameter_of (head.Tested reads place) = None
parameter_of (head.Counted parameter bounds place) = Some parameter
parameter_of head.Endless = None

-- the positions of these variables, of those that are in the set
abbrev pub positions_in : List ℕ → List ℕ → List ℕ
positions_in set numbers = filter_map (λ n. position (λ m. n == m) set) numbers
