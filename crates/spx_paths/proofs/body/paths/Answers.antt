use Rattle.std.proofs.Common.{◌≡◌, false, map, subst}
use Rattle.std.specs.Prelude.{IfErr, IfOk, OnOk}
use Rattle.spx_paths.specs.Conditions.{paths}
use Rattle.spx_paths.specs.Limits.{IsPathFaultOf, has_many_paths}
use Rattle.spx_steps.specs.declared.listing.Path.{Path}
use Rattle.spx_paths.proofs.BodyLaws.{the_sub}
use Rattle.spx_paths.proofs.body.paths.Goals as goal

pub returns-clause-exact : goal.returns-clause-exact
returns-clause-exact c sub at =
    let program = c.args.program.now in
    let same = the_sub program.subs c.as_slice.result.now c.args.id.0 c.index-as_slice-id.result sub c.as_slice.ensures c.index-as_slice-id.is at in
    subst (λ s. IfOk c.body_paths.result (λ all. map (λ (path : Path). path.steps) all ≡ paths program s)) same c.body_paths.ensures.exact

pub returns-clause-few : goal.returns-clause-few
returns-clause-few c sub at =
    let same = the_sub c.args.program.now.subs c.as_slice.result.now c.args.id.0 c.index-as_slice-id.result sub c.as_slice.ensures c.index-as_slice-id.is at in
    subst (λ s. OnOk c.body_paths.result (has_many_paths s ≡ false)) same c.body_paths.ensures.few

pub returns-clause-refused : goal.returns-clause-refused
returns-clause-refused c sub at =
    let same = the_sub c.args.program.now.subs c.as_slice.result.now c.args.id.0 c.index-as_slice-id.result sub c.as_slice.ensures c.index-as_slice-id.is at in
    subst (λ s. IfErr c.body_paths.result (IsPathFaultOf s)) same c.body_paths.ensures.refused
