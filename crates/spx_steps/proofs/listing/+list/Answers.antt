use Rattle.std.proofs.Common.{◌∙◌, ap, arith, length, refl, subst}
use Rattle.spx_term.specs.declared.path.PathStep.TheVariants as path
use Rattle.spx_term.specs.Steps.{Assign, Assume, Fresh}
use Rattle.spx_arena.specs.Sharing.{tree_at}
use Rattle.spx_steps.specs.declared.steps.Step.{Step}
use Rattle.spx_steps.specs.Listing.{steps_in}
use Rattle.spx_steps.specs.Trees.{Below, step_in, step_tree}
use Rattle.spx_steps.proofs.ListingLaws.{along, branched, ended, path_more}
use Rattle.spx_steps.proofs.listing.+list.Goals as goal

pub returns-in-Cut : goal.returns-in-Cut
returns-in-Cut t c =
    let s = c.args.steps.now in
    ended (steps_in c.steps.found) c.steps.path c.steps.invariant.same (c.step.ensures.tree ∙ ap (step_in s) c.in-Cut.is) (path_more c.steps.found c.push.new.self (record { steps = c.steps.path }) c.in_ok-push-in-Cut.ensures.ok)

pub steps-preserved-in-Assume : goal.steps-preserved-in-Assume
steps-preserved-in-Assume t c =
    let s = c.args.steps.now in
    let x = c.in-Assume in
    let below = subst (λ (y : Step). Below (length s.terms) c.steps.at.0 y) x.is c.step.ensures.below in
    let less = below.1 in
    record {
      within = omega (arith, less);
      falls = omega (arith, less);
      same = along (steps_in c.steps.found) c.steps.path c.push-in-Assume.new.self (path.Assume (tree_at s.terms x.fact)) (path.Assume c.in_ok-tree_of-in-Assume.field-0) (Assume (tree_at s.terms x.fact) (step_tree s x.next)) (step_tree s x.next) c.steps.invariant.same (c.step.ensures.tree ∙ ap (step_in s) x.is) refl (ap path.Assume c.in_ok-tree_of-in-Assume.ensures) c.in_ok-push-in-Assume.ensures.ok;
    }

pub steps-preserved-in-Assign : goal.steps-preserved-in-Assign
steps-preserved-in-Assign t c =
    let s = c.args.steps.now in
    let x = c.in-Assign in
    let below = subst (λ (y : Step). Below (length s.terms) c.steps.at.0 y) x.is c.step.ensures.below in
    let less = below.1 in
    record {
      within = omega (arith, less);
      falls = omega (arith, less);
      same = along (steps_in c.steps.found) c.steps.path c.push-in-Assign.new.self (path.Assign x.name (tree_at s.terms x.value)) (path.Assign x.name c.in_ok-tree_of-in-Assign.field-0) (Assign x.name (tree_at s.terms x.value) (step_tree s x.next)) (step_tree s x.next) c.steps.invariant.same (c.step.ensures.tree ∙ ap (step_in s) x.is) refl (ap (path.Assign x.name) c.in_ok-tree_of-in-Assign.ensures) c.in_ok-push-in-Assign.ensures.ok;
    }

pub steps-preserved-in-Fresh : goal.steps-preserved-in-Fresh
steps-preserved-in-Fresh t c =
    let s = c.args.steps.now in
    let x = c.in-Fresh in
    let below = subst (λ (y : Step). Below (length s.terms) c.steps.at.0 y) x.is c.step.ensures.below in
    let less = below in
    record {
      within = omega (arith, less);
      falls = omega (arith, less);
      same = along (steps_in c.steps.found) c.steps.path c.push-in-Fresh.new.self (path.Fresh x.name) (path.Fresh x.name) (Fresh x.name (step_tree s x.next)) (step_tree s x.next) c.steps.invariant.same (c.step.ensures.tree ∙ ap (step_in s) x.is) refl refl c.in_ok-push-in-Fresh.ensures.ok;
    }

pub steps-preserved : goal.steps-preserved
steps-preserved t c =
    let s = c.args.steps.now in
    let x = c.in-Split in
    let below = subst (λ (y : Step). Below (length s.terms) c.steps.at.0 y) x.is c.step.ensures.below in
    let less = below.1 in
    record {
      within = omega (arith, less);
      falls = omega (arith, less);
      same = branched (steps_in c.steps.found) c.steps.path c.in_ok-taken-in-Split.taken (step_tree s x.first) (step_tree s x.second) c.steps.invariant.same (c.step.ensures.tree ∙ ap (step_in s) x.is) (c.in_ok-taken-in-Split.ensures ∙ c.as_slice.ensures) c.in_ok-list-in-Split.ensures;
    }
