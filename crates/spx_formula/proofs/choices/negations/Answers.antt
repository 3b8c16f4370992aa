use Rattle.std.proofs.Common.{arith}
use Rattle.spx_arena.proofs.Ids.{id_within}
use Rattle.spx_formula.proofs.ChoiceIds.{next_negation}
use Rattle.spx_formula.proofs.choices.negations.Goals as goal

pub negated_id-requires : goal.negated_id-requires
negated_id-requires c =
    let more = c.loop-id.invariant.grown.more in
    let within = id_within c.args.ids.now _ c.loop-id.id-index (record { 0 = 0 }) c.requires c.loop-id-test.true in
    omega (arith, more, within)

pub loop-id-preserved : goal.loop-id-preserved
loop-id-preserved c =
    next_negation c.args.ids.now c.loop-id.id-index (record { 0 = 0 }) c.requires (id_within c.args.ids.now _ c.loop-id.id-index (record { 0 = 0 }) c.requires c.loop-id-test.true) c.loop-id-test.true
    c.loop-id.invariant c.in_ok-negated_id.ensures c.in_ok-push.ensures.ok
