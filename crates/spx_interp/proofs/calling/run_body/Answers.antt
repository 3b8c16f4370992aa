use Rattle.std.proofs.Common.{Err, refl, sym, ap, subst, ◌∙◌}
use Rattle.std.proofs.lemmas.Result.{err_from_is_err_and}
use Rattle.spx_core.specs.Commands.{commands}
use Rattle.spx_interp.specs.Results.{Done, body_ended, frame_of, ran}
use Rattle.spx_interp.proofs.BodyLaws.{body_parts}
use Rattle.spx_interp.proofs.RunForms.{on_ended}
use Rattle.spx_interp.proofs.RunLaws.{after_end, refused, unended}
use Rattle.spx_interp.proofs.calling.run_body.Goals as goal

pub returns-in_err-before : goal.returns-in_err-before
returns-in_err-before c =
    let f = frame_of c.args.body.now in
    let n = c.args.turns in
    let p = err_from_is_err_and c.from_residual.result c.from_residual.ensures.1 in
    refused (λ o. on_ended o (λ t. on_ended (ran f n t (commands f.sub.statements)) (body_ended f))) c.in_err-before.field-0.0 c.from_residual.result c.args.store.now c.args.store.now _ _ refl (p.1 ∙ ap Err p.2)
    c.in_err-before.ensures (body_parts f n c.args.store.now c.requires.entry)

pub returns-then-not-has_ended : goal.returns-then-not-has_ended
returns-then-not-has_ended c =
    let f = frame_of c.args.body.now in
    let n = c.args.turns in
    body_parts f n c.args.store.now c.requires.entry
    ∙ unended _ c.in_ok-before.before c.args.store.now (λ t. on_ended (ran f n t (commands f.sub.statements)) (body_ended f)) c.in_ok-before.ensures (sym c.has_ended.ensures ∙ c.if-not-has_ended.true)

pub returns-in_err-step : goal.returns-in_err-step
returns-in_err-step c =
    let f = frame_of c.args.body.now in
    let n = c.args.turns in
    let p = err_from_is_err_and c.from_residual-in_err-step.result c.from_residual-in_err-step.ensures.1 in
    refused (λ o. on_ended o (body_ended f)) c.in_err-step.field-0.0 c.from_residual-in_err-step.result c.run_stmts.new.store c.run_stmts.new.store _ _ refl (p.1 ∙ ap Err p.2) c.in_err-step.ensures
    (body_parts f n c.args.store.now c.requires.entry
    ∙ after_end (λ o. on_ended o (λ t. on_ended (ran f n t (commands f.sub.statements)) (body_ended f))) _ c.in_ok-before.before c.args.store.now c.in_ok-before.ensures (sym c.has_ended.ensures ∙ c.if-not-has_ended.false)
    ∙ ap (λ stmts. on_ended (ran f n c.args.store.now (commands stmts)) (body_ended f)) (sym c.as_slice.ensures))

pub returns-then-not-has_ended-2 : goal.returns-then-not-has_ended-2
returns-then-not-has_ended-2 c =
    let f = frame_of c.args.body.now in
    let n = c.args.turns in
    body_parts f n c.args.store.now c.requires.entry
    ∙ after_end (λ o. on_ended o (λ t. on_ended (ran f n t (commands f.sub.statements)) (body_ended f))) _ c.in_ok-before.before c.args.store.now c.in_ok-before.ensures (sym c.has_ended.ensures ∙ c.if-not-has_ended.false)
    ∙ ap (λ stmts. on_ended (ran f n c.args.store.now (commands stmts)) (body_ended f)) (sym c.as_slice.ensures)
    ∙ unended _ c.in_ok-step.step c.run_stmts.new.store (body_ended f) c.in_ok-step.ensures (sym c.has_ended-2.ensures ∙ c.if-not-has_ended-2.true)

pub returns : goal.returns
returns c =
    let f = frame_of c.args.body.now in
    let n = c.args.turns in
    subst (Done c.end_body.result c.run_stmts.new.store)
    (sym
    (body_parts f n c.args.store.now c.requires.entry
    ∙ after_end (λ o. on_ended o (λ t. on_ended (ran f n t (commands f.sub.statements)) (body_ended f))) _ c.in_ok-before.before c.args.store.now c.in_ok-before.ensures (sym c.has_ended.ensures ∙ c.if-not-has_ended.false)
    ∙ ap (λ stmts. on_ended (ran f n c.args.store.now (commands stmts)) (body_ended f)) (sym c.as_slice.ensures)
    ∙ after_end (λ o. on_ended o (body_ended f)) _ c.in_ok-step.step c.run_stmts.new.store c.in_ok-step.ensures (sym c.has_ended-2.ensures ∙ c.if-not-has_ended-2.false)))
    c.end_body.ensures
