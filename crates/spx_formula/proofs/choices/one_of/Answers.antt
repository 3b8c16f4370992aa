use Rattle.std.proofs.Common.{arith}
use Rattle.spx_formula.proofs.ChoiceIds.{end_so_far, next_so_far}
use Rattle.spx_formula.proofs.choices.one_of.Goals as goal

pub choice_id-requires : goal.choice_id-requires
choice_id-requires c =
    let more = c.loop-choice.invariant.grown.more in
    let within = c.requires.0 in
    omega (arith, more, within)

pub loop-choice-preserved : goal.loop-choice-preserved
loop-choice-preserved c =
    next_so_far c.args.choices.now c.loop-choice.choice-index c.choice-item.result c.requires.0 c.loop-choice-test.true c.choice-item.is c.loop-choice.invariant c.in_ok-next.ensures c.in_ok-all.ensures.added

pub returns : goal.returns
returns c = end_so_far c.args.choices.now c.loop-choice.choice-index (omega (arith, c.loop-choice-test.false)) c.loop-choice.invariant
