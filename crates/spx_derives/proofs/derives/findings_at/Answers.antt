use Rattle.std.proofs.Common.{◌∙◌, sym, subst}
use Rattle.spx_core.specs.FlowRules.{MarkReaches}
use Rattle.spx_core.specs.Scopes.{Scoped}
use Rattle.spx_derives.specs.FlowFindings.{AreFindingsOf}
use Rattle.spx_derives.proofs.Elements.{just, sub_at, sub_is}
use Rattle.spx_derives.proofs.derives.findings_at.Goals as goal

pub findings-requires-clause-scoped : goal.findings-requires-clause-scoped
findings-requires-clause-scoped c =
    subst (Scoped c.args.program.now) (sym (sub_is c.args.program.now.subs c.as_slice.result.now c.args.id.0 c.index-as_slice-id.result c.as_slice.ensures c.index-as_slice-id.is))
    (c.names_are_scoped.ensures c.args.program.now c.requires.visible c.args.id.0 c.index-as_slice-id.result c.requires.id)

pub findings-requires-clause-marks : goal.findings-requires-clause-marks
findings-requires-clause-marks c =
    subst (MarkReaches c.args.program.now) (sym (sub_is c.args.program.now.subs c.as_slice.result.now c.args.id.0 c.index-as_slice-id.result c.as_slice.ensures c.index-as_slice-id.is))
    (c.marks.ensures.reaches c.args.program.now c.requires.visible c.args.id.0 c.index-as_slice-id.result c.requires.id)

pub findings-requires-clause-flow : goal.findings-requires-clause-flow
findings-requires-clause-flow c =
    c.requires.flow c.index-as_slice-id.result
    (sub_at c.args.program.now.subs c.as_slice.result.now c.args.id.0 c.index-as_slice-id.result c.requires.id c.as_slice.ensures c.index-as_slice-id.is)

pub findings-requires-clause-unset : goal.findings-requires-clause-unset
findings-requires-clause-unset c =
    c.requires.unset c.index-as_slice-id.result
    (sub_at c.args.program.now.subs c.as_slice.result.now c.args.id.0 c.index-as_slice-id.result c.requires.id c.as_slice.ensures c.index-as_slice-id.is)

pub returns : goal.returns
returns c sub is =
    let at = sub_at c.args.program.now.subs c.as_slice.result.now c.args.id.0 c.index-as_slice-id.result c.requires.id c.as_slice.ensures c.index-as_slice-id.is in
    subst (λ s. AreFindingsOf c.args.program.now s c.in_ok-found.found.items) (just c.index-as_slice-id.result sub (sym at ∙ is)) c.in_ok-found.ensures
