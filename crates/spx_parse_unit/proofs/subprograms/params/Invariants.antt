use Rattle.std.proofs.Common.{◌≡◌, length}
use Rattle.spx_parse_unit.specs.Units.{params, more_params}
use Rattle.spx_parse_unit.proofs.subprograms.params.Given as goal

abbrev pub invariant-more : goal.invariant-more
invariant-more l = params l.levels l.fn.cursor ≡ more_params l.levels l.params l.cursor

abbrev pub decreases-more : goal.decreases-more
decreases-more l = length l.cursor
