use Rattle.std.proofs.Common.{refl, subst, sym}
use Rattle.spx_core.specs.Effects.{assign}
use Rattle.spx_passes.specs.Steps.{StepsBack}
use Rattle.spx_passes.proofs.AssignLaws.{assigned_back, placed_within, unassigned_back}
use Rattle.spx_passes.proofs.assign.before_assignment.Goals as goal

pub row-requires : goal.row-requires
row-requires c = placed_within c.args.frame.now c.args.rho.now c.args.assignment.now.target c.in-Some.position c.requires.size c.in-Some.ensures

pub spread_row-requires-clause-from : goal.spread_row-requires-clause-from
spread_row-requires-clause-from c = placed_within c.args.frame.now c.args.rho.now c.args.assignment.now.target c.in-Some.position c.requires.size c.in-Some.ensures

pub returns-in-None : goal.returns-in-None
returns-in-None c = unassigned_back c.args.frame.now c.args.assignment.now.target c.args.assignment.now.reads c.args.assignment.now.place c.args.rho.now c.args.mu.now c.requires.covers c.requires.rows c.in-None.ensures

pub returns-in_ok-push-in-Some : goal.returns-in_ok-push-in-Some
returns-in_ok-push-in-Some c =
    let frame = c.args.frame.now in
    let place = c.args.assignment.now.place in
    let from = c.in_ok-from-in-Some.ensures in
    subst (StepsBack frame (assign c.args.assignment.now.target c.args.assignment.now.reads place) c.args.rho.now c.spread_row.new.self c.args.mu.now) (sym c.in_ok-push-in-Some.ensures.ok)
    (assigned_back frame c.args.assignment.now.target c.args.assignment.now.reads place c.in-Some.position c.args.rho.now c.spread_row.new.self c.args.mu.now
    (record { place = place; vars = c.in_ok-vars-in-Some.vars }) c.in_ok-from-in-Some.from.items c.requires.covers c.requires.rows c.in-Some.ensures c.requires.size c.spread_row.ensures.size
    from.within (rw c.as_slice-reads.ensures at from.exact) (rw c.as_slice.ensures.value at c.spread_row.ensures.pairs) c.in_ok-vars-in-Some.ensures refl)
