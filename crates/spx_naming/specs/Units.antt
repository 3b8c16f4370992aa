-- The subprogram that a unit is.
use Rattle.spx_tree.specs.declared.subprogram.Subprogram.{Subprogram}
use Rattle.spx_tree.specs.declared.subprogram.Unit.{Unit}
use Rattle.spx_tree.specs.declared.subprogram.Unit.TheVariants as unit

abbrev pub subprogram_of : Unit → Subprogram
subprogram_of (unit.Subprogram s) = s
