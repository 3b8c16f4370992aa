use Rattle.std.proofs.Common.{◌≡◌, false, map}
use Rattle.std.specs.Prelude.{IfErr, IfOk, OnOk}
use Rattle.spx_term.specs.Steps.{tidy}
use Rattle.spx_arena.specs.Claims.{claims_in}
use Rattle.spx_paths.specs.Conditions.{body_claims}
use Rattle.spx_paths.specs.Limits.{has_large_condition, has_many_paths}
use Rattle.spx_vcg.specs.Largeness.{IsFaultOf}
use Rattle.spx_vcg.proofs.Subs.{at_sub}
use Rattle.spx_vcg.proofs.vcg.shared_conditions.Goals as goal

pub returns-clause-claims : goal.returns-clause-claims
returns-clause-claims c = λ sub at.
    let p = c.args.program.now in
    at_sub (λ s. IfOk c.conditions_within.result (λ all. claims_in all ≡ map tidy (body_claims p s))) p.subs c.as_slice.result.now c.args.id.0 c.index-as_slice-id.result sub c.as_slice.ensures c.index-as_slice-id.is at c.conditions_within.ensures.claims

pub returns-clause-few : goal.returns-clause-few
returns-clause-few c = λ sub at.
    let p = c.args.program.now in
    at_sub (λ s. OnOk c.conditions_within.result ((has_many_paths s ≡ false) × (has_large_condition p s ≡ false))) p.subs c.as_slice.result.now c.args.id.0 c.index-as_slice-id.result sub c.as_slice.ensures c.index-as_slice-id.is at c.conditions_within.ensures.few

pub returns-clause-refused : goal.returns-clause-refused
returns-clause-refused c = λ sub at.
    let p = c.args.program.now in
    at_sub (λ s. IfErr c.conditions_within.result (IsFaultOf p s)) p.subs c.as_slice.result.now c.args.id.0 c.index-as_slice-id.result sub c.as_slice.ensures c.index-as_slice-id.is at c.conditions_within.ensures.refused
