use Rattle.std.proofs.Common.{◌≡◌, ◌+◌, ◌++◌, ◌∷◌, [], ap, arith, length, refl, subst, sym, take, ◌∙◌}
use Rattle.std.proofs.lemmas.List.{take_all, take_more}
use Rattle.std.proofs.lemmas.List.Elements.{All-contains}
use Rattle.spx_passes.specs.declared.occurrence.Occurrence.{Occurrence}
use Rattle.spx_passes.specs.Loops.{Carries}
use Rattle.spx_passes.proofs.Carried.{carries_more, carries_none}
use Rattle.spx_passes.proofs.turns.carry.Goals as goal

pub union_through-requires : goal.union_through-requires
union_through-requires c =
    let n = length c.args.through.now in
    All-contains (λ (o : Occurrence). length o.vars ≡ n) c.args.inner.now c.occurrence-item.result c.requires.inner (c.loop-occurrence.occurrence-index, c.loop-occurrence-test.true, sym c.occurrence-item.is)

pub loop-occurrence-init : goal.loop-occurrence-init
loop-occurrence-init c = carries_none (length c.args.through.now) c.args.through.now c.args.list.now c.requires.list

pub loop-occurrence-preserved : goal.loop-occurrence-preserved
loop-occurrence-preserved c =
    let through = c.args.through.now in
    let inner = c.args.inner.now in
    let before = c.args.list.now in
    let k = c.loop-occurrence.occurrence-index in
    let o = c.occurrence-item.result in
    let new : Occurrence = record { place = o.place; vars = c.in_ok-vars.vars } in
    let mid = c.loop-occurrence.list in
    subst (Carries (length through) through (take (k + 1) inner) before) (sym c.in_ok-push.ensures.ok)
    (subst (λ xs. Carries (length through) through xs before (mid ++ new ∷ [])) (sym (take_more inner k o c.loop-occurrence-test.true ∙ ap (λ x. take k inner ++ x ∷ []) (sym c.occurrence-item.is)))
    (carries_more (length through) through (take k inner) before mid o new c.loop-occurrence.invariant c.in_ok-vars.ensures.0 c.in_ok-vars.ensures.1 refl))

pub returns : goal.returns
returns c =
    let through = c.args.through.now in
    let inner = c.args.inner.now in
    let k = c.loop-occurrence.occurrence-index in
    subst (λ xs. Carries (length through) through xs c.args.list.now c.loop-occurrence.list) (take_all k inner (omega arith)) c.loop-occurrence.invariant
