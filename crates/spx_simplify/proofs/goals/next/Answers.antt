use Rattle.std.proofs.Common.{◌≡◌, rules}
use Rattle.spx_simplify.proofs.Outcomes.{drops_more, goes_on}
use Rattle.spx_simplify.proofs.goals.next.Goals as goal

pub returns-then-last-yes : goal.returns-then-last-yes
returns-then-last-yes c =
    let same : c.in-Some.last.after ≡ c.args.yes = search rules in
    goes_on c.args.left.now c.left.left c.pop.new.self c.args.yes c.in-Some.last c.left.invariant c.in-Some.ensures same

pub left-preserved : goal.left-preserved
left-preserved c =
    let other : c.in-Some.last.after ≡ c.args.yes → ⊥ = search rules in
    drops_more c.args.left.now c.left.left c.pop.new.self c.args.yes c.in-Some.last c.left.invariant c.in-Some.ensures other
