use Rattle.spx_lower.specs.Meaning.{effect_in}
use Rattle.spx_passes.proofs.EndLaws.{comes_from_start}
use Rattle.spx_passes.proofs.pass.forward.Goals as goal

pub returns-clause-lambda : goal.returns-clause-lambda
returns-clause-lambda c =
    let turn = c.in_ok-turn in
    comes_from_start c.args.frame.now (effect_in c.args.items.now) turn.turn.flow turn.turn.inner c.in_ok-list.list turn.ensures (rw c.len-count.ensures at c.in_ok-list.ensures.related)
