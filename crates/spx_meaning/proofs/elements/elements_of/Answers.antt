use Rattle.std.proofs.Common.{◌≤◌, List, [], subst, ◌∙◌, arith, length}
use Rattle.spx_core.specs.declared.entity.VarId.{VarId}
use Rattle.spx_meaning.specs.Elements.{elements_after, elements_at}
use Rattle.spx_meaning.specs.Stores.{type_of}
use Rattle.spx_meaning.proofs.ElementCounts.{all_summed, known_sums}
use Rattle.spx_meaning.proofs.elements.elements_of.Goals as goal

pub returns : goal.returns
returns c =
    let p = c.args.program.now in
    all_summed (λ (v : VarId). elements_at c.in_ok-counts.counts (type_of p v).base.id) c.args.sub.now.vars c.loop-var.var-index c.loop-var.total
    (subst (λ (vars : List VarId). length vars ≤ c.loop-var.var-index) c.as_slice-var-items.ensures (omega (arith, c.loop-var-test.false))) c.loop-var.invariant.least c.loop-var.invariant.total
    ∙ known_sums c.in_ok-counts.counts (elements_after [] p.types) (λ (v : VarId). (type_of p v).base.id) c.args.sub.now.vars c.in_ok-counts.ensures
