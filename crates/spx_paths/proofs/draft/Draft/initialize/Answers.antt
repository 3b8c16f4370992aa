use Rattle.std.proofs.Common.{List, ap, map, reverse, subst, sym, ◌∙◌}
use Rattle.spx_core.specs.declared.entity.VarId.{VarId}
use Rattle.spx_term.specs.declared.term.Name.{Name}
use Rattle.spx_term.specs.declared.value.Value.{Value}
use Rattle.std.specs.Prelude.{Option}
use Rattle.spx_term.specs.Folding.{static_term}
use Rattle.spx_term.specs.Steps.{Assign}
use Rattle.spx_meaning.specs.Runs.{initial_value}
use Rattle.spx_steps.specs.Trees.{step_tree}
use Rattle.spx_paths.specs.Drafts.{Lays}
use Rattle.spx_formula.specs.Terms.{now}
use Rattle.spx_paths.specs.Walks.{initializing, starting_with}
use Rattle.spx_paths.proofs.BoundLaws.{order_terms}
use Rattle.spx_paths.proofs.BuildLaws.{reversed_more}
use Rattle.spx_paths.proofs.KnownLaws.{given_before, next_initialized}
use Rattle.spx_paths.proofs.draft.Draft.initialize.Goals as goal

pub assign-requires-clause-whole : goal.assign-requires-clause-whole
assign-requires-clause-whole c = order_terms c.loop-var.invariant.order c.in_ok-value.ensures.added.grown

pub loop-var-preserved-in-Some-initial_value : goal.loop-var-preserved-in-Some-initial_value
loop-var-preserved-in-Some-initial_value c =
    let p = c.args.body.now.program.now in
    let v = c.in-Some.var.now in
    let inv = c.loop-var.invariant in
    let rest = step_tree c.args.self.now.steps c.args.first in
    let here = step_tree c.loop-var.self.steps c.loop-var.at in
    let value = c.in-Some-initial_value.value in
    let term = c.in_ok-value.ensures.added in
    let is = ap (λ (n : Name). Assign n (static_term value) here) c.now.ensures ∙ ap (λ (o : Option Value). starting_with (now p v) o here) (sym c.in-Some-initial_value.is ∙ c.initial_value.ensures) in
    let step = given_before {a = c.loop-var.self} c.in_ok-value.value c.now.result (static_term value) c.loop-var.at (starting_with (now p v) (initial_value p v) here) inv.order inv.made.within term.grown term.made.tree c.in_ok-at.ensures is in
    subst (λ (vs : List VarId). Lays c.args.self.now (record { steps = c.assign.new.self; checks = c.loop-var.self.checks }) c.in_ok-at.at (initializing p vs rest)) (sym (reversed_more c.loop-var.yielded c.in-Some.var))
    (next_initialized p v (reverse (map (λ s. s.now) c.loop-var.yielded)) rest inv step)
