use Rattle.std.proofs.Common.{◌≡◌, length}
use Rattle.spx_parse_unit.specs.Units.{more_identifiers}
use Rattle.spx_parse_unit.proofs.annotations.more_identifiers.Given as goal

abbrev pub invariant-more : goal.invariant-more
invariant-more l = more_identifiers l.marked l.fn.found l.fn.cursor ≡ more_identifiers l.marked l.identifiers l.cursor

abbrev pub decreases-more : goal.decreases-more
decreases-more l = length l.cursor
