use Rattle.std.proofs.Common.{refl, subst, sym, ◌∙◌}
use Rattle.spx_core.specs.Effects.{assign}
use Rattle.spx_passes.specs.Steps.{StepsForward}
use Rattle.spx_passes.proofs.AssignLaws.{assigned_forward, placed_within, unassigned_forward}
use Rattle.spx_passes.proofs.assign.after_assignment.Goals as goal

pub set_row-requires-clause-to : goal.set_row-requires-clause-to
set_row-requires-clause-to c = placed_within c.args.frame.now c.args.state.now c.args.assignment.now.target c.in-Some.position c.requires.size c.in-Some.ensures

pub row-requires : goal.row-requires
row-requires c = placed_within c.args.frame.now c.set_row.new.self c.args.assignment.now.target c.in-Some.position (c.set_row.ensures.size ∙ c.requires.size) c.in-Some.ensures

pub returns-in-None : goal.returns-in-None
returns-in-None c = unassigned_forward c.args.frame.now c.args.assignment.now.target c.args.assignment.now.reads c.args.assignment.now.place c.args.state.now c.args.lambda.now c.requires.covers c.requires.rows c.in-None.ensures

pub returns-in_ok-push-in-Some : goal.returns-in_ok-push-in-Some
returns-in_ok-push-in-Some c =
    let frame = c.args.frame.now in
    let place = c.args.assignment.now.place in
    let from = c.in_ok-from-in-Some.ensures in
    subst (StepsForward frame (assign c.args.assignment.now.target c.args.assignment.now.reads place) c.args.state.now c.set_row.new.self c.args.lambda.now) (sym c.in_ok-push-in-Some.ensures.ok)
    (assigned_forward frame c.args.assignment.now.target c.args.assignment.now.reads place c.in-Some.position c.args.state.now c.set_row.new.self c.args.lambda.now
    (record { place = place; vars = c.in_ok-vars-in-Some.vars }) c.in_ok-from-in-Some.from.items c.requires.covers c.requires.rows c.in-Some.ensures c.requires.size c.set_row.ensures.size from.within (rw c.as_slice-reads.ensures at from.exact)
    (rw c.as_slice.ensures.value at c.set_row.ensures.pairs) c.in_ok-vars-in-Some.ensures refl)
