use Rattle.std.proofs.lemmas.Result.{IfOk-weaker}
use Rattle.spx_paths.proofs.BoundLaws.{limit_is, term_along}
use Rattle.spx_paths.proofs.draft.Draft.limit_id.Goals as goal

pub returns-then-is_upper : goal.returns-then-is_upper
returns-then-is_upper c = IfOk-weaker c.high_id.result _ _ (λ id m. term_along _ m (limit_is c.args.body.now.program.now c.args.body.now.sub.now c.args.count.now c.if-is_upper.true)) c.high_id.ensures

pub returns : goal.returns
returns c = IfOk-weaker c.low_id.result _ _ (λ id m. term_along _ m (limit_is c.args.body.now.program.now c.args.body.now.sub.now c.args.count.now c.if-is_upper.false)) c.low_id.ensures
