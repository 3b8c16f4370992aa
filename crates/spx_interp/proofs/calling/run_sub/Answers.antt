use Rattle.std.proofs.Common.{◌≡◌, sym, ap, ◌∙◌, length, Some, Err, arith}
use Rattle.std.proofs.lemmas.Result.{err_from_is_err_and}
use Rattle.spx_interp.specs.Results.{outcome_of}
use Rattle.spx_interp.proofs.BodyLaws.{call_body, limited_by, written}
use Rattle.spx_interp.proofs.calling.run_sub.Goals as goal

pub returns-in_err-step-clause-limit : goal.returns-in_err-step-clause-limit
returns-in_err-step-clause-limit c limit is =
    let p = err_from_is_err_and c.from_residual-in_err-step.result c.from_residual-in_err-step.ensures.1 in
    call_body c.args.program.now c.args.turns c.args.sub.now c.args.store.now c.as_slice-2.result.now (c.as_slice-2.ensures.value ∙ c.in_ok-entry.ensures.values)
    ∙ limited_by c.in_err-step.field-0.0 limit c.run_body.new.store _ c.from_residual-in_err-step.result (p.1 ∙ ap Err p.2) is c.in_err-step.ensures

pub returns-clause-ran : goal.returns-clause-ran
returns-clause-ran c =
    let size : length c.run_body.new.store ≡ c.in_ok-slots.slots.len = omega arith in
    call_body c.args.program.now c.args.turns c.args.sub.now c.args.store.now c.as_slice-2.result.now (c.as_slice-2.ensures.value ∙ c.in_ok-entry.ensures.values)
    ∙ c.in_ok-step.ensures
    ∙ ap (λ s. Some (outcome_of c.in_ok-step.step s)) (sym (written c.run_body.new.store c.in_ok-slots.slots.items c.in_ok-slots.slots.len size))
