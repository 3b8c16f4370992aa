use Rattle.std.proofs.Common.{Option, ap, rules}
use Rattle.std.proofs.lemmas.Int.{to_z-of_z}
use Rattle.std.specs.Int.{w128}
use Rattle.spx_core.specs.declared.function.Span.{Span}
use Rattle.spx_term.specs.declared.condition.CondKind.TheVariants.{Range}
use Rattle.spx_paths.specs.Checks.{bounds_check}
use Rattle.spx_formula.specs.Goals.{in_range}
use Rattle.spx_paths.proofs.CheckSteps.{check_made, finds_along, finds_not, ids_kept, keeps_not, keeps_twice, only_keeps}
use Rattle.spx_paths.proofs.draft.Draft.check_bounds.Goals as goal

pub find-requires-clause-whole : goal.find-requires-clause-whole
find-requires-clause-whole c = (only_keeps c.requires.whole c.in_ok-goals-in-Some.ensures.grown).whole

pub find-requires-clause-lefts : goal.find-requires-clause-lefts
find-requires-clause-lefts c = ids_kept (only_keeps c.requires.whole c.in_ok-goals-in-Some.ensures.grown) _ c.requires.lefts

pub returns-in-None-clause-keeps : goal.returns-in-None-clause-keeps
returns-in-None-clause-keeps c = keeps_not c.requires.whole

pub returns-in-None-clause-walks : goal.returns-in-None-clause-walks
returns-in-None-clause-walks c = λ ls t ml m. finds_along (λ rest. ap (λ (o : Option Span). bounds_check ls o c.args.place t rest) c.in-None.is) (finds_not c.args.self.now)

pub returns-in_ok-find-in-Some-clause-keeps : goal.returns-in_ok-find-in-Some-clause-keeps
returns-in_ok-find-in-Some-clause-keeps c = keeps_twice (only_keeps c.requires.whole c.in_ok-goals-in-Some.ensures.grown) c.in_ok-find-in-Some.ensures.keeps

pub returns-in_ok-find-in-Some-clause-walks : goal.returns-in_ok-find-in-Some-clause-walks
returns-in_ok-find-in-Some-clause-walks c = λ ls t ml m.
    let span = c.in-Some.span in
    finds_along (λ rest. ap (λ (o : Option Span). bounds_check ls o c.args.place t rest) c.in-Some.is)
    (check_made Range c.args.place ls (in_range span.first span.last t) c.requires.whole c.requires.lefts ml c.in_ok-goals-in-Some.ensures
    ((λ i. in_range (to_z-of_z w128 span.first (search rules) i) (to_z-of_z w128 span.last (search rules) i) (m.tree i))) c.in_ok-find-in-Some.ensures.finds)
