use Rattle.std.proofs.Common.{◌≡◌, length}
use Rattle.spx_parse_unit.specs.Units.{declarations, more_declarations}
use Rattle.spx_parse_unit.proofs.declarative.declarations.Given as goal

abbrev pub invariant-more : goal.invariant-more
invariant-more l = declarations l.levels l.fn.cursor ≡ more_declarations l.levels l.declarations l.cursor

abbrev pub decreases-more : goal.decreases-more
decreases-more l = length l.cursor
