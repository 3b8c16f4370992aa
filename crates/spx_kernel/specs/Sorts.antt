-- What a step leaves is well sorted.
use Rattle.std.specs.Prelude.{◌≡◌, Ok, List}
use Rattle.std.specs.List.{AllByRecursion}
use Rattle.spx_term.specs.declared.condition.Sequent.{Sequent}
use Rattle.spx_term.specs.Values.{Types}
use Rattle.spx_kernel.specs.Sequents.{Sorted}
use Rattle.spx_kernel.specs.Steps.{Rule, step, RuleSorted}

-- where all terms of the sequent are Boolean, so are those of the sequents that a step leaves
abbrev pub StepKeepsSorts : Type 0
StepKeepsSorts = (types : Types) (s : Sequent) (r : Rule) → Sorted types s → RuleSorted types r → (left : List Sequent) → step s r ≡ Ok left → AllByRecursion (Sorted types) left
