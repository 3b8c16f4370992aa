use Rattle.std.proofs.Common.{refl, sym, ◌∙◌}
use Rattle.std.proofs.lemmas.Result.{IfOk-weaker}
use Rattle.spx_paths.specs.Walks.{bound_term}
use Rattle.spx_paths.proofs.BoundLaws.{adds_term, bound_by, term_along}
use Rattle.spx_paths.proofs.draft.Draft.bound_id.Goals as goal

pub returns-then-is_fixed : goal.returns-then-is_fixed
returns-then-is_fixed c =
    let p = c.args.body.now.program.now in
    let sub = c.args.body.now.sub.now in
    let is = bound_by p sub c.args.body.now.interface.now c.requires.interface c.args.name c.args.expr.now (sym c.is_fixed.ensures ∙ c.if-is_fixed.true) in
    IfOk-weaker c.code_id.result _ _ (λ id m. term_along (bound_term p sub c.args.name c.args.expr.now) m is) c.code_id.ensures

pub returns : goal.returns
returns c =
    let p = c.args.body.now.program.now in
    let sub = c.args.body.now.sub.now in
    let is = bound_by p sub c.args.body.now.interface.now c.requires.interface c.args.name c.args.expr.now (sym c.is_fixed.ensures ∙ c.if-is_fixed.false) in
    IfOk-weaker c.make.result _ _ (λ id made. adds_term (bound_term p sub c.args.name c.args.expr.now) c.requires.order c.make.ensures.grown made refl refl is) c.make.ensures.made
