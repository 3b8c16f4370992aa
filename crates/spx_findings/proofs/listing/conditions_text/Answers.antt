use Rattle.std.proofs.Common.{◌≡◌, ◌<◌, ◌≤◌, None, length, take, get_or, sym, ap, ◌∙◌, arith}
use Rattle.std.specs.Prelude.{slice_get}
use Rattle.std.proofs.lemmas.List.{take_all}
use Rattle.std.proofs.lemmas.Result.{err_from_is_err_and}
use Rattle.spx_core.specs.Resolved.{sub_at}
use Rattle.spx_text.specs.Loads.{names}
use Rattle.spx_findings.specs.Findings.{first_limit, limit_at}
use Rattle.spx_findings.proofs.FaultLaws.{first_fault}
use Rattle.spx_findings.proofs.FindingLaws.{limit_by_body, limit_here, limit_in, limit_more}
use Rattle.spx_findings.proofs.ListingLaws.{text_in, text_is, text_more}
use Rattle.spx_findings.proofs.listing.conditions_text.Goals as goal

pub loop-id-preserved : goal.loop-id-preserved
loop-id-preserved c =
    let p = c.args.program.now in
    let ids = c.as_slice-id-items.result.now in
    let within : c.loop-id.id-index < length ids = omega arith in
    let text = text_more p (names c.args.files.now) ids c.loop-id.id-index (sub_at 0) within in
    let before : limit_in p (take c.loop-id.id-index ids) ≡ None = cc (c.loop-id.invariant.few) in
    let here : limit_at p (slice_get p.subs (get_or ids c.loop-id.id-index (sub_at 0)).0) ≡ None = cc (c.in_ok-put_body.ensures.few) in
    let few = limit_more p ids c.loop-id.id-index (sub_at 0) within before ∙ here in
    record {
      text = cc (c.in_ok-put_body.ensures.text);
      few = cc (few);
    }

pub returns-clause-text : goal.returns-clause-text
returns-clause-text c =
    let p = c.args.program.now in
    let lent : c.as_slice-id-items.result.now ≡ p.bodies = cc in
    let walked : length p.bodies ≤ c.loop-id.id-index = omega (arith, ap length lent) in
    c.loop-id.invariant.text ∙ ap (text_in p (names c.args.files.now)) (take_all c.loop-id.id-index p.bodies walked) ∙ text_is p (names c.args.files.now)

pub returns-clause-few : goal.returns-clause-few
returns-clause-few c =
    let p = c.args.program.now in
    let lent : c.as_slice-id-items.result.now ≡ p.bodies = cc in
    let walked : length p.bodies ≤ c.loop-id.id-index = omega (arith, ap length lent) in
    sym (limit_by_body p p.bodies) ∙ sym (ap (limit_in p) (take_all c.loop-id.id-index p.bodies walked)) ∙ c.loop-id.invariant.few

pub returns-in_err-put_body-clause-limit : goal.returns-in_err-put_body-clause-limit
returns-in_err-put_body-clause-limit c =
    let p = c.args.program.now in
    let ids = c.as_slice-id-items.result.now in
    let lent : ids ≡ p.bodies = cc in
    let within : c.loop-id.id-index < length ids = omega arith in
    let before : limit_in p (take c.loop-id.id-index ids) ≡ None = cc (c.loop-id.invariant.few) in
    let passed = err_from_is_err_and c.from_residual-in_err-put_body.result c.from_residual-in_err-put_body.ensures.1 in
    let limit = first_fault (limit_at p (slice_get p.subs (get_or ids c.loop-id.id-index (sub_at 0)).0)) (first_limit p) c.in_err-put_body.field-0.0
    (λ name is. sym (limit_by_body p p.bodies) ∙ ap (limit_in p) (sym lent) ∙ limit_here p ids c.loop-id.id-index (sub_at 0) name within before is)
    c.in_err-put_body.ensures.limit in
    rw (passed.1, passed.2) limit
