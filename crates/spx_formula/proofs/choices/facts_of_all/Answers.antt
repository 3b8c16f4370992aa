use Rattle.std.proofs.Common.{arith}
use Rattle.spx_formula.proofs.ChoiceIds.{end_facts, next_facts}
use Rattle.spx_formula.proofs.choices.facts_of_all.Goals as goal

pub loop-alternative-preserved : goal.loop-alternative-preserved
loop-alternative-preserved c =
    next_facts c.args.alternatives.now c.loop-alternative.alternative-index c.alternative-item.result c.requires c.loop-alternative-test.true c.alternative-item.is c.loop-alternative.invariant
    c.in_ok-alternative_facts.ensures.facts c.in_ok-alternative_facts.ensures.earlier c.in_ok-push.ensures.ok

pub returns : goal.returns
returns c = end_facts c.args.alternatives.now c.loop-alternative.alternative-index (omega (arith, c.loop-alternative-test.false)) c.loop-alternative.invariant
