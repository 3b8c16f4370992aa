use Rattle.std.proofs.Common.{◌≡◌, length}
use Rattle.spx_parse_unit.specs.Units.{file, more_units}
use Rattle.spx_parse_unit.proofs.subprograms.file.Given as goal

abbrev pub invariant-more : goal.invariant-more
invariant-more l = file l.levels l.fn.cursor ≡ more_units l.levels l.units l.cursor

abbrev pub decreases-more : goal.decreases-more
decreases-more l = length l.cursor
