use Rattle.std.proofs.Common.{rules, ap, sym, ◌∙◌}
use Rattle.spx_core.specs.Contexts.{is_static, taking}
use Rattle.spx_core.specs.Judged.{judged}
use Rattle.spx_context.proofs.Conversions.{whole}
use Rattle.spx_context.proofs.context.+taking.Goals as goal

pub taking-returns-in-Some : goal.taking-returns-in-Some
taking-returns-in-Some t c =
    let static = sym (c.if-is_static.ensures ∙ ap is_static (c.judge.ensures ∙ ap judged c.get.ensures)) in
    let is = ap (λ given. taking given c.args.expr) c.in-Some.is ∙ whole c.in-Some.base c.args.expr static in
    search (rules, is)
