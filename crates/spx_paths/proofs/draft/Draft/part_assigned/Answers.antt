use Rattle.std.proofs.Common.{Option, ap, refl}
use Rattle.spx_core.specs.declared.entity.VarId.{VarId}
use Rattle.spx_steps.specs.Trees.{step_tree}
use Rattle.spx_steps.proofs.Arena.{order_kept}
use Rattle.spx_arena.specs.Sharing.{tree_at}
use Rattle.spx_arena.proofs.Growth.{grows_twice}
use Rattle.spx_formula.proofs.GoalSteps.{adds_made}
use Rattle.spx_paths.specs.Walks.{part_assigned}
use Rattle.spx_paths.proofs.BuildLaws.{lays_along}
use Rattle.spx_paths.proofs.PartSets.{whole_put}
use Rattle.spx_paths.proofs.draft.Draft.part_assigned.Goals as goal

pub assume_all-requires-clause-whole : goal.assume_all-requires-clause-whole
assume_all-requires-clause-whole c = order_kept {old = c.args.self.now.steps} {new = record { terms = c.in_type.new.terms; nodes = c.args.self.now.steps.nodes }} c.requires.order (grows_twice c.make.ensures.grown c.in_ok-facts-in-Some.ensures.grown) refl

pub returns-in_ok-id-in-Some : goal.returns-in_ok-id-in-Some
returns-in_ok-id-in-Some c =
    let p = c.args.program.now in
    let a = c.args.self.now in
    let made = adds_made c.make.ensures.grown c.in_ok-value-in-Some.ensures.made in
    lays_along (part_assigned p _ (tree_at a.steps.terms c.args.whole) (step_tree a.steps c.args.next))
    (whole_put {a = a} {c = record { steps = c.assign.new.self; checks = a.checks }} p c.in-Some.var c.requires.order c.requires.within.0 c.requires.within.1 c.now-name.ensures c.type_of-subtype.ensures made c.in_ok-facts-in-Some.ensures c.as_slice.ensures c.in_ok-known-in-Some.ensures c.in_ok-id-in-Some.ensures refl)
    (ap (λ (o : Option VarId). part_assigned p o (tree_at a.steps.terms c.args.whole) (step_tree a.steps c.args.next)) c.in-Some.ensures)
