use Rattle.std.proofs.Common.{List, ◌∙◌, ap, arith, length, refl, subst, sym}
use Rattle.spx_term.specs.Steps.{Assign, Assume, Fresh, check}
use Rattle.spx_arena.specs.declared.terms.TermId.{TermId}
use Rattle.spx_arena.specs.Claims.{trees_at}
use Rattle.spx_arena.specs.Sharing.{tree_at}
use Rattle.spx_steps.specs.declared.steps.Step.{Step}
use Rattle.spx_steps.specs.Trees.{Below, step_in, step_tree}
use Rattle.spx_steps.proofs.ForkLaws.{ends_check}
use Rattle.spx_steps.proofs.WalkLaws.{comes_on, goes_fresh}
use Rattle.spx_steps.proofs.walk.Walk.walk_straight.Goals as goal

pub steps-preserved-in-Assume : goal.steps-preserved-in-Assume
steps-preserved-in-Assume c =
    let s = c.args.steps.now in
    let x = c.in-Assume in
    let below = subst (λ (y : Step). Below (length s.terms) c.steps.at.0 y) x.is c.step.ensures.below in
    let less = below.1 in
    record { within = omega (arith, less); comes = comes_on (Assume (tree_at s.terms x.fact)) c.steps.invariant.comes c.in_ok-assumed-in-Assume.ensures (c.step.ensures.tree ∙ ap (step_in s) x.is) refl }

pub steps-preserved-in-Assign : goal.steps-preserved-in-Assign
steps-preserved-in-Assign c =
    let s = c.args.steps.now in
    let x = c.in-Assign in
    let below = subst (λ (y : Step). Below (length s.terms) c.steps.at.0 y) x.is c.step.ensures.below in
    let less = below.1 in
    record { within = omega (arith, less); comes = comes_on (Assign x.name (tree_at s.terms x.value)) c.steps.invariant.comes c.in_ok-assigned-in-Assign.ensures (c.step.ensures.tree ∙ ap (step_in s) x.is) refl }

pub steps-preserved : goal.steps-preserved
steps-preserved c =
    let s = c.args.steps.now in
    let x = c.in-Check in
    let below = subst (λ (y : Step). Below (length s.terms) c.steps.at.0 y) x.is c.step.ensures.below in
    let less = below.1 in
    let goals = trees_at s.terms c.as_slice.result.now in
    let is = c.step.ensures.tree ∙ ap (step_in s) x.is ∙ ap (λ (ids : List TermId). check x.kind x.place (trees_at s.terms ids) (step_tree s x.next)) (sym c.as_slice.ensures) in
    record { within = omega (arith, less); comes = comes_on (check x.kind x.place goals) c.steps.invariant.comes c.in_ok-checked-in-Check.ensures is (ends_check x.kind x.place goals (step_tree s x.next)) }

pub steps-preserved-in-Fresh : goal.steps-preserved-in-Fresh
steps-preserved-in-Fresh c =
    let s = c.args.steps.now in
    let x = c.in-Fresh in
    let less = subst (λ (y : Step). Below (length s.terms) c.steps.at.0 y) x.is c.step.ensures.below in
    record { within = omega (arith, less); comes = comes_on (Fresh x.field-0) c.steps.invariant.comes (goes_fresh x.field-0 c.steps.invariant.comes.ready) (c.step.ensures.tree ∙ ap (step_in s) x.is) refl }
