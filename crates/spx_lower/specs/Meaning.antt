-- What a tree of items means: an effect.
use Rattle.std.specs.Prelude.{Bool, List, [], ◌∷◌, ◌++◌, map, Option, Some, None, option_map}
use Rattle.std.specs.List.{filter_map}
use Rattle.spx_text.specs.declared.place.Place.{Place}
use Rattle.spx_core.specs.declared.part.PartStep.{PartStep}
use Rattle.spx_core.specs.declared.statement.CoreArm.{CoreArm, out-CoreArm}
use Rattle.spx_core.specs.declared.statement.CoreStmt.{CoreStmt}
use Rattle.spx_core.specs.declared.statement.CoreScheme.{CoreScheme}
use Rattle.spx_core.specs.declared.statement.CoreScheme.TheVariants as scheme
use Rattle.spx_core.specs.Commands.{commands, leaves}
use Rattle.spx_core.specs.Reads.{names_in_step}
use Rattle.spx_core.specs.Effects.{Effect, Read, nothing, assign, next, choose, observe, repeat, count, endless, chosen, effects, read_of, reads_of, reads_of_range}
use Rattle.spx_lower.specs.declared.item.Item.{Item, Item-F, fold-Item}
use Rattle.spx_lower.specs.declared.item.Arm.{Arm, Arm-F, fold-Arm}
use Rattle.spx_lower.specs.declared.item.Head.{Head}
use Rattle.spx_lower.specs.declared.item.Head.TheVariants as head

-- a test, and what is done where it is true
pub record Test : Type 0 where
  pub place : Place
  pub reads : List Read
  pub is_exit : Bool
  pub done : Effect

-- one after the other
abbrev pub row : List Effect → Effect
row [] = nothing
row (first ∷ rest) = next first (row rest)

-- each arm before the next; before each test the selector is read
abbrev pub branch : List Read → Effect → List Test → Effect
branch selector otherwise [] = otherwise
branch selector otherwise (arm ∷ arms) = chosen arm.is_exit (arm.reads ++ selector) arm.done (branch selector otherwise arms) arm.place

-- what is done where no test is true: with a place, both arms of a choice, so that the selector is read also where there is no other
abbrev pub ended : List Read → Option Place → Effect → Effect
ended selector None otherwise = otherwise
ended selector (Some place) otherwise = choose selector otherwise otherwise place

abbrev pub loop_over : Head → Effect → Effect
loop_over (head.Tested reads place) body = repeat reads body place
loop_over (head.Counted parameter bounds place) body = count parameter bounds body place
loop_over head.Endless body = endless body

abbrev pub arm_step : Arm-F Effect Test → Test
arm_step arm = record { place = arm.place; reads = arm.reads; is_exit = arm.is_exit; done = row arm.body }

abbrev pub item_step : Item-F Effect Test → Effect
item_step Item-F.Nothing = nothing
item_step (Item-F.Assign a) = assign a.target a.reads a.place
item_step (Item-F.Observe reads) = observe reads
item_step (Item-F.Branch selector arms last otherwise) = branch selector (ended selector last (row otherwise)) arms
item_step (Item-F.Loop h body) = loop_over h (row body)

abbrev pub effect_of : Item → Effect
effect_of = fold-Item Effect Test item_step arm_step

abbrev pub arm_of : Arm → Test
arm_of = fold-Arm Effect Test item_step arm_step

abbrev pub effect_in : List Item → Effect
effect_in items = row (map effect_of items)

-- ---- what statements give

abbrev pub given_body : Place → List Read → List CoreStmt → Test
given_body place reads stmts = record { place = place; reads = reads; is_exit = leaves (commands stmts); done = effects stmts }

abbrev pub given_arm : CoreArm → Test
given_arm arm = given_body (out-CoreArm arm).place (reads_of (out-CoreArm arm).condition) (out-CoreArm arm).body

-- what the index of a step on the way to a part reads
abbrev pub reads_in_step : PartStep → List Read
reads_in_step step = filter_map read_of (names_in_step step)

abbrev pub given_loop : CoreScheme → Effect → Effect
given_loop (scheme.While place condition) body = repeat (reads_of condition) body place
given_loop (scheme.For c) body = count c.parameter (option_map reads_of_range c.bounds) body c.place
given_loop scheme.Endless body = endless body
