use Rattle.std.proofs.Common.{◌≡◌, length}
use Rattle.spx_parse_body.specs.Statements.{some_choices, more_choices}
use Rattle.spx_parse_body.proofs.statements.some_choices.Given as goal

abbrev pub invariant-more : goal.invariant-more
invariant-more l = some_choices l.levels l.fn.cursor ≡ more_choices l.levels l.choices l.cursor

abbrev pub decreases-more : goal.decreases-more
decreases-more l = length l.cursor
