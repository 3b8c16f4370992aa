use Rattle.std.proofs.Common.{◌≡◌, false, sym, ap, subst, ◌∙◌, Err, refl}
use Rattle.spx_core.specs.Rules.{ObeysRules}
use Rattle.spx_core.specs.Scopes.{Scoped}
use Rattle.spx_meaning.specs.Elements.{has_many_elements}
use Rattle.spx_meaning.specs.Limits.{call_passes}
use Rattle.spx_meaning.specs.Runs.{Ended, call}
use Rattle.spx_interp.specs.declared.step.Step.TheVariants as step
use Rattle.spx_interp.specs.Calls.{IsCall}
use Rattle.spx_interp.proofs.BodyLaws.{call_ended, faulted, in_place, never_left, past_limit, the_sub}
use Rattle.spx_interp.proofs.RoomLaws.{scoped_room, scoped_vars}
use Rattle.spx_interp.proofs.calling.call.Goals as goal

pub run_sub-requires-clause-vars : goal.run_sub-requires-clause-vars
run_sub-requires-clause-vars c =
    let p = c.args.program.now in
    let sub = c.index-as_slice-id.result in
    let at = in_place p.subs c.as_slice.result.now c.args.id.0 sub c.as_slice.ensures c.index-as_slice-id.is in
    scoped_vars p sub (subst (Scoped p) (sym at) (c.names_are_scoped.ensures p c.requires.visible c.args.id.0 sub c.requires.id))

pub run_sub-requires-clause-room : goal.run_sub-requires-clause-room
run_sub-requires-clause-room c =
    let p = c.args.program.now in
    let sub = c.index-as_slice-id.result in
    let at = in_place p.subs c.as_slice.result.now c.args.id.0 sub c.as_slice.ensures c.index-as_slice-id.is in
    scoped_room p sub (subst (Scoped p) (sym at) (c.names_are_scoped.ensures p c.requires.visible c.args.id.0 sub c.requires.id))

pub returns-in-Err-clause-runs : goal.returns-in-Err-clause-runs
returns-in-Err-clause-runs c sub is =
    let p = c.args.program.now in
    let n = c.args.turns in
    let s = c.args.store.now in
    let first = c.index-as_slice-id.result in
    let same = the_sub p.subs c.as_slice.result.now c.args.id.0 first sub c.as_slice.ensures c.index-as_slice-id.is is in
    let few : has_many_elements p first ≡ false = sym c.in_ok-has_many_elements.ensures ∙ c.if-branch.false in
    let answer = faulted p first n s c.in-Err.fault few (λ limit wide. past_limit (call_passes p n first s) (call p n first s) (c.in-Err.ensures.limit limit (ap Err wide))) in
    subst (λ x. IsCall p x n s (Err c.in_bits.result) s) same (subst (λ r. IsCall p first n s (Err r) s) (sym c.in_bits.ensures) answer)

pub unreachable-requires : goal.unreachable-requires
unreachable-requires c =
    let p = c.args.program.now in
    let s = c.args.store.now in
    let sub = c.index-as_slice-id.result in
    let run = c.in-Ok.run' in
    let at = in_place p.subs c.as_slice.result.now c.args.id.0 sub c.as_slice.ensures c.index-as_slice-id.is in
    let obeys = subst (ObeysRules p) (sym at) (c.rules_hold.ensures p c.requires.visible c.requires.obeys c.args.id.0 sub c.requires.id) in
    never_left p sub obeys c.args.turns s run.slots.items (call_ended p c.args.turns sub sub s run.slots.items run.step step.Left refl c.in-Ok.ensures.ran c.in-Left.is).1

pub returns-in-Ended-clause-runs : goal.returns-in-Ended-clause-runs
returns-in-Ended-clause-runs c sub is =
    let p = c.args.program.now in
    let run = c.in-Ok.run' in
    let first = c.index-as_slice-id.result in
    let same = the_sub p.subs c.as_slice.result.now c.args.id.0 first sub c.as_slice.ensures c.index-as_slice-id.is is in
    let few = subst (λ x. has_many_elements c.args.program.now x ≡ false) same (sym c.in_ok-has_many_elements.ensures ∙ c.if-branch.false) in
    let known = call_ended p c.args.turns first sub c.args.store.now run.slots.items run.step step.Ended same c.in-Ok.ensures.ran c.in-Ended.is in
    (few, known.0, known.1 ∙ ap Ended (sym c.from_values.ensures))

pub returns-in-Failed-clause-runs : goal.returns-in-Failed-clause-runs
returns-in-Failed-clause-runs c sub is =
    let p = c.args.program.now in
    let run = c.in-Ok.run' in
    let first = c.index-as_slice-id.result in
    let same = the_sub p.subs c.as_slice.result.now c.args.id.0 first sub c.as_slice.ensures c.index-as_slice-id.is is in
    let few = subst (λ x. has_many_elements c.args.program.now x ≡ false) same (sym c.in_ok-has_many_elements.ensures ∙ c.if-branch.false) in
    let known = call_ended p c.args.turns first sub c.args.store.now run.slots.items run.step (step.Failed c.in-Failed.bad) same c.in-Ok.ensures.ran c.in-Failed.is in
    (few, known.0, (known.1, refl))

pub returns-in-Later-clause-runs : goal.returns-in-Later-clause-runs
returns-in-Later-clause-runs c sub is =
    let p = c.args.program.now in
    let run = c.in-Ok.run' in
    let first = c.index-as_slice-id.result in
    let same = the_sub p.subs c.as_slice.result.now c.args.id.0 first sub c.as_slice.ensures c.index-as_slice-id.is is in
    let few = subst (λ x. has_many_elements c.args.program.now x ≡ false) same (sym c.in_ok-has_many_elements.ensures ∙ c.if-branch.false) in
    let known = call_ended p c.args.turns first sub c.args.store.now run.slots.items run.step step.Later same c.in-Ok.ensures.ran c.in-Later.is in
    (few, known.0, (known.1, refl))
