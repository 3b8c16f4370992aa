use Rattle.std.proofs.Common.{◌≡◌, ◌∙◌, ap, arith, false, get_or, length, subst, sym}
use Rattle.std.proofs.lemmas.Bool.{le-ltb}
use Rattle.spx_core.specs.FlowRules.{is_wide, most_variables}
use Rattle.spx_core.specs.Scopes.{Scoped}
use Rattle.spx_flow.specs.Flows.{IsBodyFlow}
use Rattle.spx_flow.proofs.FlowLaws.{covers_body, the_sub}
use Rattle.spx_flow.proofs.flow.backward_flow_of.Goals as goal

pub body_flow-requires-clause-covers : goal.body_flow-requires-clause-covers
body_flow-requires-clause-covers c =
    let p = c.args.program.now in
    let sub = c.index-as_slice-id.result in
    let at : sub ≡ get_or p.subs c.args.id.0 sub = c.index-as_slice-id.is ∙ ap (λ subs. get_or subs c.args.id.0 sub) c.as_slice.ensures in
    covers_body p sub (subst (Scoped p) (sym at) (c.names_are_scoped.ensures p c.requires.visible c.args.id.0 sub c.requires.id))

pub returns-clause-flow : goal.returns-clause-flow
returns-clause-flow c sub at =
    let same = the_sub c.args.program.now.subs c.as_slice.result.now c.args.id.0 c.index-as_slice-id.result sub c.as_slice.ensures c.index-as_slice-id.is at in
    subst (λ s. IsBodyFlow s c.in_ok-body.body) same c.in_ok-body.ensures

pub returns-clause-narrow : goal.returns-clause-narrow
returns-clause-narrow c sub at =
    let first = c.index-as_slice-id.result in
    let same = the_sub c.args.program.now.subs c.as_slice.result.now c.args.id.0 first sub c.as_slice.ensures c.index-as_slice-id.is at in
    let few = rw c.len-count.ensures at c.if-count-gt-MOST_VARIABLES.false in
    subst (λ s. is_wide s ≡ false) same (le-ltb most_variables (length first.vars) (omega (arith, few)))
