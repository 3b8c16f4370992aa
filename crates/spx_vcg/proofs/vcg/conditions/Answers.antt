use Rattle.std.specs.Prelude.{IfErr}
use Rattle.spx_vcg.specs.Largeness.{IsFaultOf}
use Rattle.spx_vcg.proofs.Subs.{at_sub}
use Rattle.spx_vcg.proofs.vcg.conditions.Goals as goal

pub returns-clause-refused : goal.returns-clause-refused
returns-clause-refused c = λ sub at.
    let p = c.args.program.now in
    at_sub (λ s. IfErr c.trees_within.result (IsFaultOf p s)) p.subs c.as_slice.result.now c.args.id.0 c.index-as_slice-id.result sub c.as_slice.ensures c.index-as_slice-id.is at c.trees_within.ensures.refused
