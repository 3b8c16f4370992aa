use Rattle.std.proofs.lemmas.List.{drop_all}
use Rattle.spx_kernel.proofs.ListedForms.{forms_at, forms_stop_at, forms_end}
use Rattle.spx_kernel.proofs.certificate.forms_of.Goals as goal

pub returns-in-Err-TooWide : goal.returns-in-Err-TooWide
returns-in-Err-TooWide c =
    forms_stop_at c.args.terms.now c.loop-comparison.comparison-index c.comparison-item.result c.loop-comparison.forms c.loop-comparison-test.true c.comparison-item.is
    (rw c.in-Err-TooWide.field-0-is at c.in-Err-TooWide.ensures) c.loop-comparison.invariant

pub loop-comparison-preserved : goal.loop-comparison-preserved
loop-comparison-preserved c =
    forms_at c.args.terms.now c.loop-comparison.comparison-index c.comparison-item.result c.loop-comparison.forms c.push.new.self c.in-Ok.form c.loop-comparison-test.true c.comparison-item.is
    c.in-Ok.ensures c.in_ok-push-in-Ok.ensures.ok c.loop-comparison.invariant

pub returns : goal.returns
returns c = forms_end c.args.terms.now c.loop-comparison.comparison-index c.loop-comparison.forms (drop_all _ _ c.loop-comparison-test.false) c.loop-comparison.invariant
