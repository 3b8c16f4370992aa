use Rattle.std.proofs.Common.{rules, refl, ap, ◌∙◌}
use Rattle.std.proofs.lemmas.Int.{to_z-of_z}
use Rattle.std.proofs.lemmas.Result.{IfOk-weaker}
use Rattle.std.specs.Int.{w128}
use Rattle.spx_paths.specs.Walks.{bound_term, high_term}
use Rattle.spx_paths.proofs.BoundLaws.{adds_term, most_is, high_is, term_along}
use Rattle.spx_paths.proofs.draft.Draft.high_id.Goals as goal

pub returns-in-None : goal.returns-in-None
returns-in-None c =
    let p = c.args.body.now.program.now in
    let sub = c.args.body.now.sub.now in
    let is = most_is p sub c.args.count.now c.type_of-most.result _ c.in-None.is c.type_of-most.ensures (to_z-of_z w128 c.type_of-most.result.last (search rules)) in
    IfOk-weaker c.make.result _ _ (λ id made. adds_term (high_term p sub c.args.count.now) c.requires.order c.make.ensures.grown made refl refl is) c.make.ensures.made

pub returns-in-Some : goal.returns-in-Some
returns-in-Some c =
    let p = c.args.body.now.program.now in
    let sub = c.args.body.now.sub.now in
    let name = c.last_name.result in
    IfOk-weaker c.bound_id.result _ _ (λ id m. term_along (high_term p sub c.args.count.now) m
    (ap (bound_term p sub name) c.get-high.ensures
    ∙ high_is p sub c.args.count.now name c.in-Some.range c.in-Some.is c.last_name.ensures)) c.bound_id.ensures
