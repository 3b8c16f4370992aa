use Rattle.std.proofs.Common.{rules, ap, sym, ◌∙◌}
use Rattle.spx_context.specs.Powers.{has_power}
use Rattle.spx_context.proofs.Unchanged.{unchanged}
use Rattle.spx_context.proofs.context.in_context.Goals as goal

pub returns-else-has_power : goal.returns-else-has_power
returns-else-has_power c =
    let same = unchanged c.args.of c.args.expr (sym (c.if-has_power.ensures ∙ ap has_power c.get.ensures)) in
    search (rules, same)
