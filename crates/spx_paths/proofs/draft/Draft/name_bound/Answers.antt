use Rattle.std.proofs.Common.{sym, ◌∙◌}
use Rattle.std.proofs.lemmas.Result.{MatchResult-weaker}
use Rattle.spx_steps.specs.Trees.{step_tree}
use Rattle.spx_paths.specs.Walks.{naming}
use Rattle.spx_formula.specs.Terms.{now_term, term_of}
use Rattle.spx_paths.proofs.BoundLaws.{lays_given, named_by}
use Rattle.spx_paths.proofs.BuildLaws.{lays_along, lays_not}
use Rattle.spx_paths.proofs.draft.Draft.name_bound.Goals as goal

pub returns-then-is_fixed : goal.returns-then-is_fixed
returns-then-is_fixed c =
    let p = c.args.body.now.program.now in
    let sub = c.args.body.now.sub.now in
    let rest = step_tree c.args.self.now.steps c.args.next in
    lays_along (naming p sub c.args.name c.args.expr.now rest) (lays_not c.requires.order c.requires.within)
    (named_by p sub c.args.body.now.interface.now c.requires.interface c.args.name c.args.expr.now (sym c.is_fixed.ensures ∙ c.if-is_fixed.true) rest)

pub returns : goal.returns
returns c =
    let p = c.args.body.now.program.now in
    let sub = c.args.body.now.sub.now in
    let rest = step_tree c.args.self.now.steps c.args.next in
    let is = named_by p sub c.args.body.now.interface.now c.requires.interface c.args.name c.args.expr.now (sym c.is_fixed.ensures ∙ c.if-is_fixed.false) rest in
    MatchResult-weaker c.assign.result c.assign.ensures (λ id s. lays_given (term_of p (now_term p) c.args.expr.now) c.args.name c.args.next (naming p sub c.args.name c.args.expr.now rest) c.requires.within c.in_ok-value.ensures s is) (λ _ _. _)
