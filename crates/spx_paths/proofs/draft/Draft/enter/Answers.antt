use Rattle.std.proofs.Common.{Bool, List, ap, map, reverse, subst, sym, ◌∙◌}
use Rattle.std.specs.Prelude.{if◌then◌else◌}
use Rattle.spx_core.specs.declared.entity.VarId.{VarId}
use Rattle.spx_core.specs.Dependency.{exports}
use Rattle.spx_term.specs.declared.term.Term.TheVariants.{Variable}
use Rattle.spx_term.specs.Steps.{Assign}
use Rattle.spx_steps.specs.Trees.{step_tree}
use Rattle.spx_paths.specs.Drafts.{Lays}
use Rattle.spx_formula.specs.Terms.{entry, now}
use Rattle.spx_paths.specs.Walks.{entering}
use Rattle.spx_paths.proofs.BoundLaws.{order_terms}
use Rattle.spx_paths.proofs.BuildLaws.{reversed_more}
use Rattle.spx_paths.proofs.KnownLaws.{given_before, next_entered}
use Rattle.spx_paths.proofs.draft.Draft.enter.Goals as goal

pub assign-requires-clause-whole : goal.assign-requires-clause-whole
assign-requires-clause-whole c = order_terms c.loop-var.invariant.order c.in_ok-value.ensures.grown

pub loop-var-preserved-then-contains : goal.loop-var-preserved-then-contains
loop-var-preserved-then-contains c =
    let p = c.args.body.now.program.now in
    let sub = c.args.body.now.sub.now in
    let v = c.in-Some.var.now in
    let inv = c.loop-var.invariant in
    let rest = step_tree c.args.self.now.steps c.args.first in
    let here = step_tree c.loop-var.self.steps c.loop-var.at in
    let term = c.in_ok-value.ensures in
    let exported = sym c.if-contains.true ∙ c.contains.ensures ∙ c.requires.interface.exports v in
    let given = Assign (now p v) (Variable (entry p v)) here in
    let is = (λ i. Assign (c.now.ensures i) (Variable (entry p v)) here) ∙ ap (λ (b : Bool). if b then given else here) exported in
    let step = given_before {a = c.loop-var.self} c.in_ok-value.value c.now.result (Variable (entry p v)) c.loop-var.at (if exports v sub then given else here) inv.order inv.made.within term.grown (term.made.tree ∙ ap Variable c.entry.ensures) c.in_ok-at.ensures is in
    subst (λ (vs : List VarId). Lays c.args.self.now (record { steps = c.assign.new.self; checks = c.loop-var.self.checks }) c.in_ok-at.at (entering p sub vs rest)) (sym (reversed_more c.loop-var.yielded c.in-Some.var))
    (next_entered p sub v (reverse (map (λ s. s.now) c.loop-var.yielded)) rest inv step)
