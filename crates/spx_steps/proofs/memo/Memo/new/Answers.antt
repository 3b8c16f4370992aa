use Rattle.std.proofs.Common.{◌≡◌, arith}
use Rattle.spx_steps.proofs.MemoLaws.{new_of, nothing_new}
use Rattle.spx_steps.proofs.memo.Memo.new.Goals as goal

pub returns : goal.returns
returns c =
    let last : c.loop-at.at ≡ c.args.count = omega (arith, c.loop-at.auto.at-end, c.loop-at-test.false) in
    nothing_new 1 c.loop-at.entries (omega arith) (new_of last c.loop-at.invariant)
