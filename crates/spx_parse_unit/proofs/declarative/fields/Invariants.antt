use Rattle.std.proofs.Common.{◌≡◌, length}
use Rattle.spx_parse_unit.specs.Units.{fields, more_fields}
use Rattle.spx_parse_unit.proofs.declarative.fields.Given as goal

abbrev pub invariant-more : goal.invariant-more
invariant-more l = fields l.levels l.fn.cursor ≡ more_fields l.levels l.fields l.cursor

abbrev pub decreases-more : goal.decreases-more
decreases-more l = length l.cursor
