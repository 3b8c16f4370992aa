use Rattle.std.proofs.Common.{Some, sym, ap, ◌∙◌}
use Rattle.std.proofs.lemmas.List.{drop_all}
use Rattle.spx_kernel.proofs.ListedForms.{listed_at, listed_stop_at, listed_end}
use Rattle.spx_kernel.proofs.certificate.all_listed.Goals as goal

pub returns-in-None : goal.returns-in-None
returns-in-None c = sym (listed_stop_at c.args.sequent.now c.args.entries.now c.loop-entry.entry-index _ c.loop-entry.terms c.loop-entry-test.true (sym c.in_ok-comparison.ensures ∙ c.in-None.is) c.loop-entry.invariant)

pub loop-entry-preserved : goal.loop-entry-preserved
loop-entry-preserved c =
    listed_at c.args.sequent.now c.args.entries.now c.loop-entry.entry-index _ c.loop-entry.terms c.push.new.self c.into_inner.result c.loop-entry-test.true
    (sym c.in_ok-comparison.ensures ∙ c.in-Some.is ∙ ap Some (sym c.into_inner.ensures)) c.in_ok-push-in-Some.ensures.ok c.loop-entry.invariant

pub returns : goal.returns
returns c = sym (listed_end c.args.sequent.now c.args.entries.now c.loop-entry.entry-index c.loop-entry.terms (drop_all _ _ c.loop-entry-test.false) c.loop-entry.invariant)
