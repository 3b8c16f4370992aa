use Rattle.std.proofs.Common.{◌≡◌, length}
use Rattle.spx_parse_unit.specs.Units.{items, more_derives}
use Rattle.spx_parse_unit.proofs.annotations.items.Given as goal

abbrev pub invariant-more : goal.invariant-more
invariant-more l = items l.levels l.fn.cursor ≡ more_derives l.levels l.items l.cursor

abbrev pub decreases-more : goal.decreases-more
decreases-more l = length l.cursor
