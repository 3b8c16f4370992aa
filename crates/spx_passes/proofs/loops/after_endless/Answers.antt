use Rattle.spx_core.specs.Mirror.VarSets.{holds}
use Rattle.spx_passes.proofs.LoopPasses.{forward_endless}
use Rattle.spx_passes.proofs.PassLaws.{forward_turn}
use Rattle.spx_passes.proofs.loops.after_endless.Goals as goal

pub returns : goal.returns
returns c body start covers known leaves begins steps =
    let frame = c.args.frame.now in
    let keys = c.args.targets.now.keys in
    let turn = c.args.turn.now in
    let first = c.in_ok-first in
    let head = c.in_ok-head in
    let ends = c.in_ok-ends in
    forward_endless frame body covers (λ v. holds keys v) known c.args.stays leaves turn.flow turn.inner c.args.state.now first.first head.head ends.ends c.replace.new.rows c.args.lambda.now c.turned.new.list
    c.requires.size first.ensures.size ends.ensures.size first.ensures.pairs (forward_turn frame body start turn.flow turn.inner begins.0 begins.1 steps) head.ensures ends.ensures.pairs c.replace.ensures.size c.replace.ensures.pairs
