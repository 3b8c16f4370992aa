-- The procedure of examples/inc.adb without its precondition: it breaks no static rule, and yet a call of it goes wrong.
use Rattle.std.specs.Prelude.{List, [], ◌∷◌, ◌++◌, Some, None, codes}
use Rattle.spx_tree.specs.declared.subprogram.Unit.{Unit}
use Rattle.spx_tree.specs.declared.subprogram.Unit.TheVariants as unit
use Rattle.spx_core.specs.declared.entity.TheConstants.{INTEGER_LAST}
use Rattle.spx_core.specs.declared.program.Program.{Program}
use Rattle.spx_core.specs.declared.subprogram.Sub.{Sub}
use Rattle.spx_term.specs.declared.condition.CondKind.TheVariants.{Overflow, Range}
use Rattle.spx_term.specs.declared.condition.Condition.{Condition}
use Rattle.spx_term.specs.declared.value.Value.TheVariants as value
use Rattle.spx_meaning.specs.Stores.{Store}
use Rattle.spx_examples.specs.Increment.{place, inc_written, inc, increment, known_entry, sum_goals}

-- the units, as they are written
abbrev pub units_without_pre : List Unit
units_without_pre = unit.Subprogram (record inc_written { pre = None }) ∷ []

-- the procedure, resolved
abbrev pub inc_without_pre : Sub
inc_without_pre = record inc { pre = None }

-- the program of the one procedure
abbrev pub increment_without_pre : Program
increment_without_pre = record increment { subs = inc_without_pre ∷ [] }

-- X has the last value of its type
abbrev pub x_is_last : Store
x_is_last = Some (value.Number INTEGER_LAST) ∷ []

-- ---- its conditions

-- the sum lies in the base range
abbrev pub overflow_without_pre : Condition
overflow_without_pre = record { name = codes "Inc.1"; kind = Overflow; place = place 6 11; hyps = known_entry; goals = sum_goals }

-- the sum lies in the type of X
abbrev pub range_without_pre : Condition
range_without_pre = record { name = codes "Inc.2"; kind = Range; place = place 6 11; hyps = known_entry ++ sum_goals; goals = sum_goals }
