use Rattle.std.proofs.Common.{◌≡◌, length}
use Rattle.spx_parse_unit.specs.Units.{more_names}
use Rattle.spx_parse_unit.proofs.annotations.more_names.Given as goal

abbrev pub invariant-more : goal.invariant-more
invariant-more l = more_names l.marked l.levels l.fn.found l.fn.cursor ≡ more_names l.marked l.levels l.names l.cursor

abbrev pub decreases-more : goal.decreases-more
decreases-more l = length l.cursor
