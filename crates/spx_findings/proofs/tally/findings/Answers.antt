use Rattle.std.proofs.Common.{◌≡◌, ◌<◌, ◌≤◌, List, [], None, length, take, get_or, sym, ap, ◌∙◌, subst, arith}
use Rattle.std.specs.Prelude.{◌↔◌, filter_map, slice_get}
use Rattle.std.specs.List.{All}
use Rattle.std.proofs.lemmas.List.{take_all}
use Rattle.std.proofs.lemmas.Result.{err_from_is_err_and}
use Rattle.spx_core.specs.Bodies.{bodies_of}
use Rattle.spx_core.specs.Resolved.{sub_at}
use Rattle.spx_report.specs.declared.report.Finding.{Finding}
use Rattle.spx_findings.specs.Findings.{first_limit, limit_at, row_at}
use Rattle.spx_findings.proofs.FaultLaws.{first_fault}
use Rattle.spx_findings.proofs.FindingLaws.{findings_are, limit_by_body, limit_here, limit_in, limit_more, lines_by_body, lines_in, lines_more, rows_more, IsPlainSub, none_left}
use Rattle.spx_findings.proofs.tally.findings.Goals as goal

pub loop-id-preserved : goal.loop-id-preserved
loop-id-preserved c =
    let p = c.args.program.now in
    let ids = c.as_slice-id-items.result.now in
    let within : c.loop-id.id-index < length ids = omega arith in
    let lines = lines_more p ids c.loop-id.id-index (sub_at 0) within in
    let rows = rows_more p ids c.loop-id.id-index (sub_at 0) within in
    let before : limit_in p (take c.loop-id.id-index ids) ≡ None = cc (c.loop-id.invariant.few) in
    let here : limit_at p (slice_get p.subs (get_or ids c.loop-id.id-index (sub_at 0)).0) ≡ None = cc (c.in_ok-add_body.ensures.few) in
    let few = limit_more p ids c.loop-id.id-index (sub_at 0) within before ∙ here in
    record {
      lines = cc (c.in_ok-add_body.ensures.lines);
      rows = cc (c.in_ok-add_body.ensures.rows);
      few = cc (few);
    }

pub returns-clause-exact : goal.returns-clause-exact
returns-clause-exact c =
    let p = c.args.program.now in
    let lent : c.as_slice-id-items.result.now ≡ p.bodies = cc in
    let walked : length p.bodies ≤ c.loop-id.id-index = omega (arith, ap length lent) in
    let all = take_all c.loop-id.id-index p.bodies walked in
    findings_are p c.loop-id.found (c.loop-id.invariant.lines ∙ ap (lines_in p) all) (c.loop-id.invariant.rows ∙ ap (filter_map (row_at p)) all)

pub returns-clause-none : goal.returns-clause-none
returns-clause-none c =
    let p = c.args.program.now in
    let lent : c.as_slice-id-items.result.now ≡ p.bodies = cc in
    let walked : length p.bodies ≤ c.loop-id.id-index = omega (arith, ap length lent) in
    let all : c.loop-id.found.lines ≡ lines_in p p.bodies = c.loop-id.invariant.lines ∙ ap (lines_in p) (take_all c.loop-id.id-index p.bodies walked) in
    subst (λ (lines : List Finding). (lines ≡ []) ↔ All (IsPlainSub p) (bodies_of p)) (sym (all ∙ lines_by_body p p.bodies)) (none_left p (bodies_of p))

pub returns-clause-few : goal.returns-clause-few
returns-clause-few c =
    let p = c.args.program.now in
    let lent : c.as_slice-id-items.result.now ≡ p.bodies = cc in
    let walked : length p.bodies ≤ c.loop-id.id-index = omega (arith, ap length lent) in
    sym (limit_by_body p p.bodies) ∙ sym (ap (limit_in p) (take_all c.loop-id.id-index p.bodies walked)) ∙ c.loop-id.invariant.few

pub returns-in_err-add_body-clause-limit : goal.returns-in_err-add_body-clause-limit
returns-in_err-add_body-clause-limit c =
    let p = c.args.program.now in
    let ids = c.as_slice-id-items.result.now in
    let lent : ids ≡ p.bodies = cc in
    let within : c.loop-id.id-index < length ids = omega arith in
    let before : limit_in p (take c.loop-id.id-index ids) ≡ None = cc (c.loop-id.invariant.few) in
    let passed = err_from_is_err_and c.from_residual.result c.from_residual.ensures.1 in
    let limit = first_fault (limit_at p (slice_get p.subs (get_or ids c.loop-id.id-index (sub_at 0)).0)) (first_limit p) c.in_err-add_body.field-0.0
    (λ name is. sym (limit_by_body p p.bodies) ∙ ap (limit_in p) (sym lent) ∙ limit_here p ids c.loop-id.id-index (sub_at 0) name within before is)
    c.in_err-add_body.ensures.limit in
    rw (passed.1, passed.2) limit
