use Rattle.std.proofs.Common.{ap}
use Rattle.std.proofs.lemmas.Result.{MatchResult-weaker}
use Rattle.spx_term.specs.declared.term.Name.{Name}
use Rattle.spx_term.specs.Steps.{Assign}
use Rattle.spx_steps.specs.Trees.{step_tree}
use Rattle.spx_formula.specs.Terms.{now}
use Rattle.spx_paths.specs.Walks.{start_term}
use Rattle.spx_paths.proofs.BoundLaws.{lays_given}
use Rattle.spx_paths.proofs.draft.Draft.begin_count.Goals as goal

pub returns : goal.returns
returns c =
    let p = c.args.body.now.program.now in
    let start = start_term p c.args.body.now.sub.now c.args.count.now in
    let rest = step_tree c.args.self.now.steps c.args.into in
    MatchResult-weaker c.assign.result c.assign.ensures (λ id s. lays_given start c.now.result c.args.into (Assign (now p c.args.count.now.parameter) start rest) c.requires.within c.in_ok-start.ensures s (ap (λ (n : Name). Assign n start rest) c.now.ensures)) (λ _ _. _)
