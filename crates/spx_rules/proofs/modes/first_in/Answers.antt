use Rattle.std.proofs.Common.{sym, ◌∙◌}
use Rattle.spx_rules.proofs.ExitRules.{before_stmts}
use Rattle.spx_rules.proofs.modes.first_in.Goals as goal

pub returns-else-is_empty : goal.returns-else-is_empty
returns-else-is_empty c = c.followed.ensures ∙ sym (before_stmts c.args.around c.args.others.now (sym c.is_empty.ensures ∙ c.if-is_empty.false))
