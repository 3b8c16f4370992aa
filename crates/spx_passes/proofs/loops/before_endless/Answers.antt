use Rattle.spx_core.specs.Mirror.VarSets.{holds}
use Rattle.spx_passes.proofs.LoopPasses.{back_endless}
use Rattle.spx_passes.proofs.PassLaws.{back_turn}
use Rattle.spx_passes.proofs.loops.before_endless.Goals as goal

pub returns : goal.returns
returns c body start covers known leaves begins steps =
    let frame = c.args.frame.now in
    let keys = c.args.targets.now.keys in
    let turn = c.args.turn.now in
    let last = c.in_ok-last in
    let head = c.in_ok-head in
    back_endless frame body covers (λ v. holds keys v) known c.args.stays leaves turn.flow turn.inner c.args.rho.now last.last head.head c.replace.new.rows c.args.mu.now c.turned.new.list
    c.requires.size last.ensures.size last.ensures.pairs (back_turn frame body start turn.flow turn.inner begins.0 begins.1 steps) head.ensures c.replace.ensures.size c.replace.ensures.pairs
