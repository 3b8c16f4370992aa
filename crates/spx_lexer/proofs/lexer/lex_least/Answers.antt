use Rattle.std.proofs.Common.{◌≡◌, ℕ, Bool, true, false, List, [], MatchBool, sym, ◌∙◌}
use Rattle.spx_tree.specs.Spells.{Spells}
use Rattle.spx_lexer.proofs.Least.{ends_in_least, not_at_end, never_least}
use Rattle.spx_lexer.proofs.Within.{least_within}
use Rattle.spx_lexer.proofs.lexer.lex_least.Goals as goal

blank : (file : ℕ) (following : List ℕ) (b : Bool) → b ≡ true → MatchBool b (Spells file following []) (¬ Spells file following []) → Spells file following []
blank file following true e h = h
blank file following false e h = absurd cc

not_blank : (file : ℕ) (following : List ℕ) (b : Bool) → b ≡ false → MatchBool b (Spells file following []) (¬ Spells file following []) → ¬ Spells file following []
not_blank file following true e h = absurd cc
not_blank file following false e h = h

-- where another thing ends or stops the text
pub returns-in_default-clause-least : goal.returns-in_default-clause-least
returns-in_default-clause-least c =
    let r = c.in_ok-reading.reading in
    let known = c.in_ok-reading.ensures in
    never_least c.args.file c.args.source.now r.list.items r.at r.rest.now known.read r.stop known.end (sym c.in_default.is ∙ c.least_at.ensures.value)

-- where the number does, and no token comes after it
pub returns-then-branch-clause-least : goal.returns-then-branch-clause-least
returns-then-branch-clause-least c =
    let r = c.in_ok-reading.reading in
    let known = c.in_ok-reading.ensures in
    ends_in_least c.args.file c.args.source.now r.list.items r.at r.rest.now known.read r.stop c.in-Some.len _ known.end (sym c.in-Some.is ∙ c.least_at.ensures.value) c.split_at.ensures.back
    (blank c.args.file _ c.in_ok-is_blank.field-0 c.if-branch.true c.in_ok-is_blank.ensures)

pub returns-then-branch-clause-within : goal.returns-then-branch-clause-within
returns-then-branch-clause-within c = least_within c.args.file c.args.source.now c.in_ok-reading.reading.list.items (returns-then-branch-clause-least c)

-- where a token does
pub returns-else-branch-clause-least : goal.returns-else-branch-clause-least
returns-else-branch-clause-least c =
    let r = c.in_ok-reading.reading in
    let known = c.in_ok-reading.ensures in
    not_at_end c.args.file c.args.source.now r.list.items r.at r.rest.now known.read r.stop c.in-Some.len _ known.end (sym c.in-Some.is ∙ c.least_at.ensures.value) c.split_at.ensures.back
    (not_blank c.args.file _ c.in_ok-is_blank.field-0 c.if-branch.false c.in_ok-is_blank.ensures)
