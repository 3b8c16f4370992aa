use Rattle.std.proofs.Common.{◌∙◌, ap, subst, sym}
use Rattle.spx_lower.specs.Meaning.{effect_in}
use Rattle.spx_define.specs.UnsetReads.{AreUnsetReads}
use Rattle.spx_derives.proofs.Elements.{just, sub_at}
use Rattle.spx_derives.proofs.derives.compare_backward.Goals as goal

pub unset_reads_in-requires : goal.unset_reads_in-requires
unset_reads_in-requires c =
    let at = sub_at c.args.program.now.subs c.as_slice.result.now c.args.id.0 c.index-as_slice-id.result c.requires.id c.as_slice.ensures c.index-as_slice-id.is in
    ap effect_in c.as_slice-2.ensures ∙ (c.requires.flow c.index-as_slice-id.result at).items

pub findings_at-requires-clause-flow : goal.findings_at-requires-clause-flow
findings_at-requires-clause-flow c sub at = (c.requires.flow sub at).back

pub findings_at-requires-clause-unset : goal.findings_at-requires-clause-unset
findings_at-requires-clause-unset c sub is =
    let at = sub_at c.args.program.now.subs c.as_slice.result.now c.args.id.0 c.index-as_slice-id.result c.requires.id c.as_slice.ensures c.index-as_slice-id.is in
    rw c.as_slice-3.ensures.value (subst (λ s. AreUnsetReads c.args.program.now s c.in_ok-unset.unset.items) (just c.index-as_slice-id.result sub (sym at ∙ is)) c.in_ok-unset.ensures)
