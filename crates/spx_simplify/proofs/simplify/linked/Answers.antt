use Rattle.std.proofs.Common.{◌++◌, [], ◌∷◌, sym, ◌∙◌, subst, take}
use Rattle.std.proofs.lemmas.List.{take_more}
use Rattle.spx_simplify.specs.Questions.{HasFacts}
use Rattle.spx_simplify.proofs.Claims.{has_more}
use Rattle.spx_simplify.proofs.simplify.linked.Goals as goal

pub loop-hyp-preserved : goal.loop-hyp-preserved
loop-hyp-preserved c =
    let i = c.loop-hyp.hyp-index in
    let t = c.hyp-item.result in
    let hyps = c.args.hyps.now in
    let h = c.in_ok-fact.ensures in
    let m = c.in_ok-facts.ensures in
    subst (HasFacts c.intern.new.self c.more.new.self c.in_ok-facts.facts) ((λ k. take i hyps ++ c.hyp-item.is k ∷ []) ∙ sym (take_more hyps i t c.loop-hyp-test.true))
    (has_more c.loop-hyp.terms c.intern.new.self c.loop-hyp.lists c.more.new.self c.loop-hyp.facts c.in_ok-facts.facts c.in_ok-fact.fact (take i hyps) t c.loop-hyp.invariant h.grown h.interned m.lists m.last)
