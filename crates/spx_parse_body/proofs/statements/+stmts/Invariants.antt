use Rattle.std.proofs.Common.{◌≡◌, ◌*◌, ◌+◌, [], ◌∷◌, length}
use Rattle.spx_parse_body.specs.Statements.{alternatives, elsif_arms, more_alternatives, more_stmts, stmts, stmts_below}
use Rattle.spx_parse_body.proofs.statements.+stmts.Given as goal

abbrev pub decreases-stmts : goal.decreases-stmts
decreases-stmts l = 7 * l.levels + 6

abbrev pub decreases-stmt : goal.decreases-stmt
decreases-stmt l = 7 * l.levels + 5

abbrev pub decreases-if_statement : goal.decreases-if_statement
decreases-if_statement l = 7 * l.levels + 4

abbrev pub decreases-case_statement : goal.decreases-case_statement
decreases-case_statement l = 7 * l.levels + 4

abbrev pub decreases-loop_statement : goal.decreases-loop_statement
decreases-loop_statement l = 7 * l.levels + 4

abbrev pub decreases-alternatives : goal.decreases-alternatives
decreases-alternatives l = 7 * l.levels + 2

abbrev pub decreases-alternative : goal.decreases-alternative
decreases-alternative l = 7 * l.levels + 1

abbrev pub decreases-elsif_arms : goal.decreases-elsif_arms
decreases-elsif_arms l = 7 * l.levels + 3

abbrev pub decreases-elsif_arm : goal.decreases-elsif_arm
decreases-elsif_arm l = 7 * l.levels + 2

abbrev pub decreases-arm : goal.decreases-arm
decreases-arm l = 7 * l.levels + 1

abbrev pub decreases-optional_else : goal.decreases-optional_else
decreases-optional_else l = 7 * l.levels + 2

abbrev pub decreases-else_part : goal.decreases-else_part
decreases-else_part l = 7 * l.levels + 1

abbrev pub decreases-stmts_below : goal.decreases-stmts_below
decreases-stmts_below l = 7 * l.levels

abbrev pub invariant-elsif_arms-more : goal.invariant-elsif_arms-more
invariant-elsif_arms-more l = elsif_arms (stmts_below l.levels) l.levels (l.fn.first ∷ []) l.fn.cursor ≡ elsif_arms (stmts_below l.levels) l.levels l.arms l.cursor

abbrev pub decreases-elsif_arms-more : goal.decreases-elsif_arms-more
decreases-elsif_arms-more l = length l.cursor

abbrev pub invariant-stmts-more : goal.invariant-stmts-more
invariant-stmts-more l = stmts l.levels l.fn.cursor ≡ more_stmts (stmts_below l.levels) l.levels l.stmts l.cursor

abbrev pub decreases-stmts-more : goal.decreases-stmts-more
decreases-stmts-more l = length l.cursor

abbrev pub invariant-alternatives-more : goal.invariant-alternatives-more
invariant-alternatives-more l = alternatives (stmts_below l.levels) l.levels l.fn.cursor ≡ more_alternatives (stmts_below l.levels) l.levels l.alternatives l.cursor

abbrev pub decreases-alternatives-more : goal.decreases-alternatives-more
decreases-alternatives-more l = length l.cursor
