use Rattle.std.proofs.Common.{◌-◌, ap, arith, length, refl}
use Rattle.spx_arena.proofs.Ids.{id_within}
use Rattle.spx_steps.proofs.Arena.{none_assumed}
use Rattle.spx_steps.proofs.steps.Steps.assume_all.Goals as goal

pub facts-init : goal.facts-init
facts-init c = record { within = omega (arith); adds = none_assumed c.args.facts.now _ refl c.requires.whole c.requires.within }

pub assume-requires-clause-within : goal.assume-requires-clause-within
assume-requires-clause-within c =
    let inv = c.facts.invariant in
    let terms = ap length inv.adds.terms in
    let left = inv.within in
    let some = c.facts-test.true in
    let fact = id_within c.args.facts.now _ (c.facts.left - 1) (record { 0 = 0 }) c.requires.facts (omega (arith, left, some)) in
    (omega (arith, fact, terms), inv.adds.made.within)
